pub mod Rotation
pub mod Laws
pub mod Turned
pub mod Known
