pub mod Reductions
pub mod Laws
pub mod Slices
pub mod Known
