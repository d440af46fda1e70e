pub mod Judgement
pub mod Requires
