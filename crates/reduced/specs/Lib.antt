pub mod Reduced
pub mod Laws
