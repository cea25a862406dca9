pub mod BlockedStep
pub mod Laws
