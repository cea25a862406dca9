pub mod Words
pub mod Numbers
pub mod Laws
pub mod Exact
