pub mod Halves
pub mod Ranges
pub mod Forms
pub mod Data
