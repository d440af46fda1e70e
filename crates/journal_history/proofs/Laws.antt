-- The laws of the definitions in specs/.
pub mod Rollback
pub mod Stack
pub mod Moves
pub mod Install
pub mod Agree
pub mod History
pub mod Corollaries
pub mod Past
pub mod Records
pub mod Bench
