-- The laws of the definitions in specs/.
pub mod Layouts
pub mod Fields
pub mod Determined
