pub mod ScaledKkt
pub mod Laws
