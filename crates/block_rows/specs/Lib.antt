pub mod Rows
pub mod Ends
pub mod Entries
pub mod Laws
pub mod Exact
