-- The laws of the definitions in specs/, and of what is copied.
pub mod Widths
pub mod Copies
pub mod Numbers
