-- The laws of the definitions in specs/.
pub mod Tables
pub mod Objects
pub mod Bounds
pub mod Targets
