-- The laws of the definitions in specs/.
pub mod Judgement
pub mod Laying
