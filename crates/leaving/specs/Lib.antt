pub mod Room
pub mod Leaving
pub mod Held
pub mod Lists
pub mod Sound
