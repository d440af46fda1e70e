pub mod Outcomes
pub mod Requires
pub mod Unique
