pub mod Placing
pub mod Requires
