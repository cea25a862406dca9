pub mod Ray
pub mod Laws
