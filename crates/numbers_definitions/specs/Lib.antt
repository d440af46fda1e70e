pub mod Places
pub mod Classes
pub mod Bytes
pub mod First
pub mod Whole
pub mod Powers
pub mod Sums
