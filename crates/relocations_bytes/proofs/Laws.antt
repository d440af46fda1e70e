-- The laws of the definitions in specs/.
pub mod Patches
pub mod Sections
pub mod Overlap
pub mod After
pub mod Words
pub mod Said
pub mod Stacks
pub mod ReadBack
pub mod Known
pub mod Halves
pub mod Bench
