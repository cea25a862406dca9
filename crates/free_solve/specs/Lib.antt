pub mod Regular
pub mod FreeSolve
pub mod Laws
