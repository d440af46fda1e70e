pub mod Patches
pub mod Sections
pub mod Words
pub mod Promises
pub mod Wholes
pub mod Requires
