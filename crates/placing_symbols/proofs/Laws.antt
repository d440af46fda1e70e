-- The laws of the definitions in specs/.
pub mod Values
pub mod Arrays
