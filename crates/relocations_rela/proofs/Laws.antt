-- The laws of the definitions in specs/.
pub mod Addends
pub mod Sites
pub mod Shape
pub mod Trails
