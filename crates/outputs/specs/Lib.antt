pub mod Kkt
pub mod Piecewise
pub mod Capped
