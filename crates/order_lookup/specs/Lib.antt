pub mod Values
pub mod Addresses
pub mod Requires
