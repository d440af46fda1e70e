pub mod Decisions
pub mod Widths
