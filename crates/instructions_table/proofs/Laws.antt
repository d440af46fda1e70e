-- The laws of the definitions in specs/, and of tests over a whole list.
pub mod Table
pub mod Jumps
