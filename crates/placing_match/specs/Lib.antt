pub mod Placements
pub mod Externals
