pub mod SlackSolve
pub mod Laws
