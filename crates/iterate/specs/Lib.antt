pub mod Problem
pub mod Iterate
pub mod Laws
