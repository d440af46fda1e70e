-- The laws of the definitions in specs/.
pub mod Ascending
pub mod Sizes
pub mod Sound
pub mod Listed
pub mod Encoding
pub mod Bench
pub mod Read
