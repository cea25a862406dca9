-- What the functions past the tests ask of the sizes.
use Rattle.std.specs.Prelude.{◌≡◌, ℕ, ◌+◌, ◌*◌, ◌≤◌, List, length, Float}
use Rattle.sizes.specs.Sizes as Sizes

-- the engine's sizes, and lists that hold what the counts give
pub record Holds (n m r : ℕ) (c b lower upper a row_lower row_upper at slopes start : List Float) : Type 0 where
  pub originals : n ≤ Sizes.originals
  pub equalities : m ≤ Sizes.equalities
  pub rows : r ≤ Sizes.rows
  pub c_holds : n ≤ length c
  pub b_holds : m ≤ length b
  pub lower_holds : n ≤ length lower
  pub upper_holds : n ≤ length upper
  pub a_holds : n * r ≤ length a
  pub row_lower_holds : r ≤ length row_lower
  pub row_upper_holds : r ≤ length row_upper
  pub at_holds : n ≤ length at
  pub slopes_hold : n ≤ length slopes
  pub start_holds : n ≤ length start

-- all that the tests tell of a call's arguments
pub record Shape (n m r : ℕ) (q c e b lower upper a row_lower row_upper at slopes start : List Float) (x multipliers : ℕ) : Type 0 where
  pub holds : Holds n m r c b lower upper a row_lower row_upper at slopes start
  pub q_holds : n * n ≤ length q
  pub e_holds : n * m ≤ length e
  pub start_long : length start ≡ n
  pub x_long : x ≡ n
  pub multipliers_long : multipliers ≡ m + r
