pub mod Layouts
pub mod Fields
