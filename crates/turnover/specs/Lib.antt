pub mod Turnover
pub mod Laws
