pub mod Original
pub mod Laws
