-- The laws of the definitions in specs/.
pub mod Mapped
pub mod Scratch
