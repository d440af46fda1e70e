-- The laws of the definitions in specs/.
pub mod Pairs
pub mod Exchanges
pub mod Sorting
pub mod Highs
pub mod Lookup
