pub mod Piecewise
pub mod Laws
