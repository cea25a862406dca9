pub mod Stepping
pub mod Laws
