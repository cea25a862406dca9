pub mod Eigen
pub mod Laws
pub mod Products
pub mod Known
