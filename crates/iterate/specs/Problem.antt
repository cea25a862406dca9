-- qp.rs, the problem of `solve_piecewise_in_units`: Q is n by n, E is n by m; the variables from `originals` on are slacks, each with one of the last
-- columns of E.
use Rattle.std.specs.Prelude.{ℕ, ◌-◌, ◌*◌, ◌≤◌, List, Float, length}
use Rattle.sizes.specs.Sizes as Sizes

pub data Problem : Type 0 where
  problem : (originals n m : ℕ) (q c e b : List Float) → Problem

-- the engine's sizes, a column for each slack, and lists that hold what the counts give
pub record Shaped (originals n m : ℕ) (q c e b : List Float) : Type 0 where
  pub few : originals ≤ Sizes.originals
  pub within : originals ≤ n
  pub variables : n ≤ Sizes.variables
  pub columns : m ≤ Sizes.columns
  pub slacks : n - originals ≤ m
  pub q_holds : n * n ≤ length q
  pub c_holds : n ≤ length c
  pub e_holds : n * m ≤ length e
  pub b_holds : m ≤ length b

-- `let first_slack_column = e.ncols() - (n - originals)`
abbrev pub first_slack_column : (originals n m : ℕ) → ℕ
first_slack_column originals n m = m - (n - originals)

-- work memory of a pass: rows of Q or of E on the free variables (`room`), q_free, e_free, and the Gram matrix of a factored solve
pub record Room (originals n m : ℕ) (room q_free e_free gram : List Float) : Type 0 where
  pub rows : originals * n ≤ length room
  pub columns : originals * m ≤ length room
  pub q_free_holds : originals * originals ≤ length q_free
  pub e_free_holds : originals * m ≤ length e_free
  pub gram_room : m * m ≤ length gram
