pub mod Factor
pub mod Block
pub mod Held
pub mod Laws
pub mod Lists
pub mod Sound
