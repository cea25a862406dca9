pub mod Whole
pub mod Value
pub mod Pattern
pub mod Nearest
pub mod Exact
pub mod Reach
