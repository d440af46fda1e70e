-- The laws of the definitions in specs/.
pub mod Sound
pub mod Pieces
pub mod Format
