pub mod Kkt
pub mod Laws
