-- What the way back to the units of the caller asks of the sizes.
use Rattle.std.specs.Prelude.{ℕ, ◌+◌, ◌*◌, ◌≤◌, List, length, Float}
use Rattle.sizes.specs.Sizes as Sizes

-- the engine's sizes, lists that hold what the counts give, and the scales with the slacks'
pub record Restores (n m r : ℕ) (e b a row_lower row_upper scales columns : List Float) : Type 0 where
  pub originals : n ≤ Sizes.originals
  pub equalities : m ≤ Sizes.equalities
  pub rows : r ≤ Sizes.rows
  pub e_holds : n * m ≤ length e
  pub b_holds : m ≤ length b
  pub a_holds : n * r ≤ length a
  pub row_lower_holds : r ≤ length row_lower
  pub row_upper_holds : r ≤ length row_upper
  pub scales_hold : n + r ≤ length scales
  pub columns_hold : m + r ≤ length columns
