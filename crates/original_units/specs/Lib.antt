pub mod Original
pub mod Holds
pub mod Laws
