pub mod Rules
pub mod First
pub mod Laid
pub mod Demands
pub mod Codes
pub mod Ours
