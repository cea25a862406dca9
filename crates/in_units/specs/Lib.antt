pub mod InUnits
pub mod Laws
