-- The laws of the definitions in specs/.
pub mod Lists
pub mod Replays
pub mod Encoding
