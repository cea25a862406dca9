pub mod Passes
pub mod Whole
