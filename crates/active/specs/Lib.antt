pub mod Active
pub mod Laws
