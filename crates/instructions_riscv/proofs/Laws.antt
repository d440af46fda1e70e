-- The laws of the definitions in specs/.
pub mod Halves
pub mod Ranges
pub mod Data
pub mod Apart
