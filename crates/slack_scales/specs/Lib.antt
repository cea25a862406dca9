pub mod SlackScales
pub mod Chain
pub mod Laws
pub mod Known
