-- The laws of the definitions in specs/.
pub mod Values
pub mod Array
pub mod Placed
pub mod Bench
