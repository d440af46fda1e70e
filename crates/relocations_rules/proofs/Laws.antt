-- The laws of the definitions in specs/.
pub mod Rules
pub mod Sites
pub mod Search
