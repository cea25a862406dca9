pub mod Matrix
pub mod Laws
pub mod Identity
pub mod InPlace
