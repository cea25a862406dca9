pub mod Cost
pub mod Laws
pub mod Adds
pub mod Exact
