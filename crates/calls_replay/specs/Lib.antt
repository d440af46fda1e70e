pub mod Lists
pub mod Replays
pub mod Requires
