-- Triangular systems, as document 01, "The reference build", has them: "A sum taken off an entry is formed first."
-- A matrix of n rows is its columns one after the other; only the lower triangle counts.
use Rattle.std.specs.Prelude.{ℕ, ◌+◌, ◌-◌, ◌*◌, Bool, true, false, not, List, set, Float}
use Rattle.std.specs.Float.Ieee.{eq}
use Rattle.folds.specs.Fold.{fold, pick, span, walk, all, Out, out}
use Rattle.folds.specs.Part.{on_part_out}
use Rattle.arith.specs.Float.{fadd, fsub, fmul, fdiv, f0, at, sum}
use Rattle.columns.specs.Columns.{cell}

-- ---- "A triangular system: each unknown is (right side − the sum over those known) / diagonal; a diagonal of 0 gives nothing."

-- no diagonal entry is 0
unfoldable pub regular : (l : List Float) (n : ℕ) → Bool
regular l n = all n (λ i. not (eq (cell l n i i) f0))

-- the sum over j < k of l i j times x j
unfoldable pub known : (k : ℕ) (l : List Float) (n i : ℕ) (x : List Float) → Float
known k l n i x = sum k (λ j. fmul (cell l n i j) (at x j))

-- the i-th unknown of l y = x, with those before it known
unfoldable pub unknown : (l : List Float) (n i : ℕ) (x : List Float) → List Float
unknown l n i x = set x i (fdiv (fsub (at x i) (known i l n i x)) (cell l n i i))

-- the first k unknowns of l y = x
unfoldable pub forward : (k : ℕ) (l : List Float) (n : ℕ) (x : List Float) → List Float
forward k l n x = fold k (unknown l n) x

-- y with l y = x, where there is one
unfoldable pub solve_lower : (l : List Float) (n : ℕ) (x : List Float) → Out (List Float)
solve_lower l n x = pick (regular l n) (out true (forward n l n x)) (out false x)

-- the same for the m columns of x; with no column there is nothing to solve, and no diagonal is looked at
unfoldable pub solve_column : (l : List Float) (n j : ℕ) (x : List Float) → Out (List Float)
solve_column l n j x = on_part_out (j * n) (j * n + n) (solve_lower l n) x

unfoldable pub solve_lower_columns : (l : List Float) (n m : ℕ) (x : List Float) → Out (List Float)
solve_lower_columns l n m x = walk m (solve_column l n) x

-- the sum over j from i + 1 to k - 1 of l j i times x j
unfoldable pub known_below : (k : ℕ) (l : List Float) (n i : ℕ) (x : List Float) → Float
known_below k l n i x = span (i + 1) k (λ j s. fadd s (fmul (cell l n j i) (at x j))) f0

-- the i-th unknown of (l transposed) y = x, with those after it known
unfoldable pub unknown_back : (l : List Float) (n i : ℕ) (x : List Float) → List Float
unknown_back l n i x = set x i (fdiv (fsub (at x i) (known_below n l n i x)) (cell l n i i))

-- all of them, the last first
unfoldable pub backward : (l : List Float) (n : ℕ) (x : List Float) → List Float
backward l n x = fold n (λ t. unknown_back l n (n - 1 - t)) x

-- y with (l transposed) y = x, where there is one
unfoldable pub tr_solve_lower : (l : List Float) (n : ℕ) (x : List Float) → Out (List Float)
tr_solve_lower l n x = pick (regular l n) (out true (backward l n x)) (out false x)

-- y with l (l transposed) y = x, for a factor l
unfoldable pub solve : (l : List Float) (n : ℕ) (x : List Float) → List Float
solve l n x = backward l n (forward n l n x)
