pub mod System
pub mod Given
pub mod Scaled
