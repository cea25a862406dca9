pub mod FreeProblem
pub mod Laws
