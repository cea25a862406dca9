pub mod RankOne
pub mod Laws
pub mod Known
