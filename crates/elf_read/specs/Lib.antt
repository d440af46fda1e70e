pub mod Headers
pub mod Sections
pub mod Entries
pub mod Requires
