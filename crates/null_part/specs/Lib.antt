pub mod NullPart
pub mod Laws
