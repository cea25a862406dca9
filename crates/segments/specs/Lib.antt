pub mod Segments
pub mod Start
pub mod Freeing
pub mod Laws
pub mod Known
