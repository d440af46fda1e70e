-- The laws of the definitions in specs/.
pub mod Tests
pub mod Lists
pub mod Bytes
pub mod First
pub mod Sums
pub mod Modulo
pub mod Whole
pub mod Powers
