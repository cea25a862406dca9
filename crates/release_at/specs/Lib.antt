pub mod ReleaseAt
pub mod Laws
