pub mod Step
pub mod Laws
pub mod Ends
pub mod Sized
