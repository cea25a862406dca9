pub mod Solve
pub mod Laws
