pub mod Minimized
pub mod Capped
pub mod Counted
pub mod Laws
