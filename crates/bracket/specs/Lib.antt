pub mod Bracket
pub mod Ends
pub mod Laws
pub mod Sized
