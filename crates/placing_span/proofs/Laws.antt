-- The laws of the definitions in specs/.
pub mod Bounds
pub mod Laid
