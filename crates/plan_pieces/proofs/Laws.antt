-- The laws of the definitions in specs/.
pub mod Span
pub mod Answers
