pub mod Writes
pub mod Calls
pub mod Histories
pub mod Requires
pub mod Records
