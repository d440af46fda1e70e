-- The laws of the definitions in specs/.
pub mod Theorems
pub mod Readings
pub mod Taken
