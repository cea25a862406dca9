-- Exact integers (those of lib.IntN): their laws, sums, bounds, and what a signed local holds.
pub mod Diff
pub mod Order
pub mod Sum
pub mod Bound
pub mod SumNat
pub mod Held
