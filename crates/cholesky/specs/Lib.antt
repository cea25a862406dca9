pub mod Cholesky
pub mod Laws
pub mod Pivots
pub mod Known
