pub mod Spans
pub mod Pieces
pub mod Sized
