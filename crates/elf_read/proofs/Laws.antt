-- The laws of the definitions in specs/.
pub mod Sections
pub mod Entries
pub mod Headers
