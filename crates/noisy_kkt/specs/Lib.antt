pub mod NoisyKkt
pub mod Laws
