pub mod Rising
pub mod Joining
pub mod Marked
pub mod Laws
pub mod Known
