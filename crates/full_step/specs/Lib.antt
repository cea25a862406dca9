pub mod FullStep
pub mod Laws
