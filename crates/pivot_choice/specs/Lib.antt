pub mod PivotChoice
pub mod Laws
