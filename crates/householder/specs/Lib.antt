pub mod Householder
pub mod Laws
pub mod Known
