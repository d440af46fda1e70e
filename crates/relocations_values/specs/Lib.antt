pub mod Values
pub mod Pairs
pub mod Highs
pub mod Sorting
pub mod Gathered
