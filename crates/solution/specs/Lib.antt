pub mod Solution
pub mod Laws
