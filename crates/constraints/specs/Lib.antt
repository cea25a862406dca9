pub mod Room
pub mod Constraints
pub mod Laws
