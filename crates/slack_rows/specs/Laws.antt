-- Laws of the definitions: which columns are kept, the lengths, the multipliers of fewer columns, and that the free variables, split at
-- `originals`, have the rows that are asked for.
use Rattle.std.specs.Prelude.{◌≡◌, Bool, List, length, set, take, drop, Float}
use Rattle.std.proofs.Math.Path.{ap}
use Rattle.std.proofs.Common.{◌∙◌, le_refl, length-set, length-drop, get_or-take, get_or-drop, length-take-le, take-take}
use Prim.Native.Nat.{ℕ, zero, suc, ◌+◌, ◌-◌, ◌*◌, ◌<◌, ◌≤◌}
use native.Mathlib.Omega.{arith}
use Rattle.std.proofs.Math.Seq.{take-set-lt}
use Rattle.folds.specs.Fold.{fold, fold_keep}
use Rattle.folds.specs.Tab.{length-tab}
use Rattle.folds.specs.Chosen.{chosen, length-chosen, chosen-below, chosen-from}
use Rattle.folds.specs.Position.{partition_point, split-within, split-chosen}
use Rattle.sizes.specs.Sizes as Sizes
use Rattle.arith.specs.Float.{f0, at}
use Rattle.vector.specs.Vector.{Below, filled}
use Rattle.vector.specs.Laws.{length-filled, take_zeros}
use Rattle.matrix.specs.Matrix.{index}
use Rattle.slack_rows.specs.SlackRows.{slack_column, Row, Rows, Solved, keeps, kept_columns, all_multipliers, step_entry, with_slack_steps}

-- ---- the columns kept are below m and rise, and are at most m
module _ (e : List Float) (n m : ℕ) (solved slacks : List ℕ) (originals first : ℕ) where
  abbrev kept : List ℕ
  kept = kept_columns e n m solved slacks originals first

  pub kept_few : length kept ≤ m
  unfolding kept_columns
  kept_few = length-chosen m (λ j. keeps e n solved slacks originals first j)

  pub kept_below : Below (length kept) kept m
  unfolding kept_columns
  kept_below k h = chosen-below m (λ j. keeps e n solved slacks originals first j) k h

-- ---- lengths
pub length-all_multipliers : (m : ℕ) (kept : List ℕ) (multipliers : List Float) → length (all_multipliers m kept multipliers) ≡ m
unfolding all_multipliers
length-all_multipliers m kept multipliers =
    fold_keep (λ l. length l ≡ m) (length kept) (λ k all. set all (index kept k) (at multipliers k)) (filled m f0) (length-filled m f0)
    (λ k l h p. simp length-set p)

pub length-with_slack_steps : (e : List Float) (n : ℕ) (solved slacks : List ℕ) (step residuals : List Float) (originals first : ℕ) →
    length (with_slack_steps e n solved slacks step residuals originals first) ≡ length solved + length slacks
unfolding with_slack_steps
length-with_slack_steps e n solved slacks step residuals originals first =
    length-tab (length solved + length slacks) (step_entry e n solved slacks step residuals originals first)

-- ---- the multipliers of k columns start with those of the first m, where none past these is kept
module _ (m k : ℕ) (kept : List ℕ) (multipliers : List Float) (h : m ≤ k) (below : Below (length kept) kept m) where
  abbrev write : ℕ → List Float → List Float
  write t all = set all (index kept t) (at multipliers t)

  taken : (t : ℕ) → t ≤ length kept → take m (fold t write (filled k f0)) ≡ fold t write (filled m f0)
  unfolding fold
  taken zero l = rw (← take_zeros k k (le_refl k), take-take) (take_zeros m k h)
  taken (suc t) l = take-set-lt m _ (index kept t) (at multipliers t) (below t l) ∙ ap (write t) (taken t (omega arith))

  pub all_multipliers-taken : {r : List Float} → r ≡ all_multipliers k kept multipliers → take m r ≡ all_multipliers m kept multipliers
  unfolding all_multipliers
  all_multipliers-taken e = rw e (taken (length kept) (le_refl _))

-- ---- a slack below n has its row, where E has `first` columns and one for each slack
module _ (n m originals first : ℕ) (room : first + (n - originals) ≤ m) where
  pub row-of : (i : ℕ) → originals ≤ i → i < n → Row n m originals first i
  unfolding slack_column
  row-of i from below = record { from = from; below = below; column = omega arith }

  -- the free variables are the numbers below n that pass a test; they split into those to be solved for and the slacks
  module _ (p : ℕ → Bool) (within : originals ≤ n) where
    abbrev split : ℕ
    split = partition_point originals (chosen n p)

    pub split-solved : (e : List Float) → n * m ≤ length e → Solved n m e (take split (chosen n p))
    split-solved e entries = record { entries = entries; below = below }
      where
        below : Below (length (take split (chosen n p))) (take split (chosen n p)) n
        below t h =
            let w = split-within originals (chosen n p) in
            let k : t < split = rw (length-take-le split (chosen n p) w) at h in
            rw (get_or-take split (chosen n p) t 0 k) (chosen-below n p t (omega arith))

    pub split-rows : n ≤ Sizes.variables → first ≤ Sizes.columns → Rows n m originals first (drop split (chosen n p))
    split-rows few columns = record { few = few; columns = columns; row = row }
      where
        row : (t : ℕ) → t < length (drop split (chosen n p)) → Row n m originals first (index (drop split (chosen n p)) t)
        row t h =
            let l : split + t < length (chosen n p) = let k = rw (length-drop split (chosen n p)) at h in omega arith in
            let z = split-chosen originals n p within in
            rw (get_or-drop split (chosen n p) t 0)
            (row-of (index (chosen n p) (split + t)) (chosen-from originals n p (split + t) within (omega arith) l) (chosen-below n p (split + t) l))
