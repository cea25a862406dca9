pub mod Update
pub mod Lower
pub mod Leaving
pub mod Same
pub mod Known
