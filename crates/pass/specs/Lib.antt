pub mod State
pub mod Pass
pub mod Laws
