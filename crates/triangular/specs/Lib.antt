pub mod Triangular
pub mod Laws
pub mod Regular
pub mod Pivots
pub mod Known
