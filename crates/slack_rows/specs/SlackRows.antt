-- qp.rs, `kept_columns`, `with_slack_steps`, `step_noise`, and the multipliers of all columns. E is n by m. The variables from `originals` on are
-- the slacks; a slack's row is one of E's columns from `first` on.
use Rattle.std.specs.Prelude.{ℕ, ◌+◌, ◌-◌, ◌*◌, ◌<◌, ◌≤◌, Bool, true, false, List, ltb, eqb, length, set, Float}
use Rattle.std.specs.Float.Ieee.{ne}
use Rattle.folds.specs.Fold.{fold, tab, pick, some}
use Rattle.folds.specs.Chosen.{chosen}
use Rattle.sizes.specs.Sizes as Sizes
use Rattle.arith.specs.Float.{fadd, fsub, fmul, fdiv, f0, at, sum}
use Rattle.reductions.specs.Reductions.{amax}
use Rattle.vector.specs.Vector.{Below, filled}
use Rattle.columns.specs.Columns.{cell}
use Rattle.matrix.specs.Matrix.{index}

-- `first_slack_column + i - originals`
unfoldable pub slack_column : (i originals first : ℕ) → ℕ
slack_column i originals first = first + i - originals

-- each of the list is a slack
abbrev pub Slacks : (originals : ℕ) (slacks : List ℕ) → Type 0
Slacks originals slacks = (t : ℕ) → t < length slacks → (originals ≤ index slacks t) × (index slacks t < Sizes.variables)

-- i is a slack, and its row one of the columns
pub record Row (n m originals first i : ℕ) : Type 0 where
  pub from : originals ≤ i
  pub below : i < n
  pub column : slack_column i originals first < m

pub record Rows (n m originals first : ℕ) (slacks : List ℕ) : Type 0 where
  pub few : n ≤ Sizes.variables
  pub columns : first ≤ Sizes.columns
  pub row : (t : ℕ) → t < length slacks → Row n m originals first (index slacks t)

-- E's entries, and the variables of a solve
pub record Solved (n m : ℕ) (e : List Float) (solved : List ℕ) : Type 0 where
  pub entries : n * m ≤ length e
  pub below : Below (length solved) solved n

-- ---- `kept_columns`
-- `slacks.iter().any(|&(_, column)| column == j)`
unfoldable pub any_slack_column : (slacks : List ℕ) (originals first j : ℕ) → Bool
any_slack_column slacks originals first j = some (length slacks) (λ t. eqb (slack_column (index slacks t) originals first) j)

-- `solved.iter().any(|&i| e[(i, j)] != 0.0)`
unfoldable pub any_entry : (e : List Float) (n : ℕ) (solved : List ℕ) (j : ℕ) → Bool
any_entry e n solved j = some (length solved) (λ t. ne (cell e n (index solved t) j) f0)

-- `j < first_slack || (!slacks.iter().any(..) && solved.iter().any(..))`
unfoldable pub keeps : (e : List Float) (n : ℕ) (solved slacks : List ℕ) (originals first j : ℕ) → Bool
keeps e n solved slacks originals first j =
    pick (ltb j first) true (pick (any_slack_column slacks originals first j) false (any_entry e n solved j))

-- `(0..e.ncols()).filter(..).collect()`
unfoldable pub kept_columns : (e : List Float) (n m : ℕ) (solved slacks : List ℕ) (originals first : ℕ) → List ℕ
kept_columns e n m solved slacks originals first = chosen m (λ j. keeps e n solved slacks originals first j)

-- ---- `let mut all = DVector::zeros(e.ncols()); for (k, &j) in kept.iter().enumerate() { all[j] = multipliers[k]; }`
unfoldable pub all_multipliers : (m : ℕ) (kept : List ℕ) (multipliers : List Float) → List Float
all_multipliers m kept multipliers = fold (length kept) (λ k all. set all (index kept k) (at multipliers k)) (filled m f0)

-- ---- `with_slack_steps`
-- `solved.iter().zip(step.iter()).map(|(&k, d)| e[(k, j)] * d).sum()`
unfoldable pub others : (e : List Float) (n : ℕ) (solved : List ℕ) (step : List Float) (j : ℕ) → Float
others e n solved step j = sum (length solved) (λ t. fmul (cell e n (index solved t) j) (at step t))

-- `(residual - others) / e[(i, j)]`; a direction has residuals of 0
unfoldable pub slack_move : (e : List Float) (n : ℕ) (solved : List ℕ) (step residuals : List Float) (originals first i : ℕ) → Float
slack_move e n solved step residuals originals first i =
    let j = slack_column i originals first in fdiv (fsub (at residuals j) (others e n solved step j)) (cell e n i j)

-- `step.iter().copied().chain(moves)`
unfoldable pub step_entry : (e : List Float) (n : ℕ) (solved slacks : List ℕ) (step residuals : List Float) (originals first k : ℕ) → Float
step_entry e n solved slacks step residuals originals first k =
    pick (ltb k (length solved)) (at step k) (slack_move e n solved step residuals originals first (index slacks (k - length solved)))

unfoldable pub with_slack_steps : (e : List Float) (n : ℕ) (solved slacks : List ℕ) (step residuals : List Float) (originals first : ℕ) → List Float
with_slack_steps e n solved slacks step residuals originals first =
    tab (length solved + length slacks) (step_entry e n solved slacks step residuals originals first)

-- ---- `step_noise`: `q_rows.amax() * x.amax() + c_free.amax()`, with `count` rows of n entries, and x the variables without the slacks
unfoldable pub step_noise : (q : List Float) (count n : ℕ) (x : List Float) (originals : ℕ) (c : List Float) → Float
step_noise q count n x originals c = fadd (fmul (amax (count * n) q) (amax originals x)) (amax count c)
