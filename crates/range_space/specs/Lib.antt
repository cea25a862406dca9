pub mod Factored
pub mod Room
pub mod Laws
