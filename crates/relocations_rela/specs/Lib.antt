pub mod Sites
pub mod Shape
pub mod Trails
pub mod Requires
