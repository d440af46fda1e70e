-- The laws of the definitions in specs/.
pub mod Sites
pub mod Search
