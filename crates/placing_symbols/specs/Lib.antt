pub mod Reasons
pub mod Values
pub mod Arrays
pub mod Requires
