pub mod Pivoting
pub mod Laws
pub mod Known
