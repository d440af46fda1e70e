-- The laws of the definitions in specs/.
pub mod Lowest
pub mod Theorems
pub mod Differing
