pub mod ScaledRay
pub mod Laws
