-- The Cholesky factor, as document 01, "The reference build", has it: "A sum taken off an entry is formed first."
-- A matrix of n rows is its columns one after the other; only the lower triangle counts, and every other entry keeps its value.
use Rattle.std.specs.Prelude.{ℕ, ◌+◌, Bool, true, false, List, Float}
use Rattle.std.specs.Float.{binary64}
use Rattle.std.specs.Float.Ieee.{lt, le, of_bits}
use Rattle.folds.specs.Fold.{pick, span, walk, all, Out, out}
use Rattle.arith.specs.Float.{fsub, fmul, fdiv, f0, sum, sqrt}
use Rattle.columns.specs.Columns.{cell, put}

-- ---- "Cholesky: column by column, from the lower triangle"

-- the first k terms of row i times row j
unfoldable pub rows_dot : (k : ℕ) (a : List Float) (n i j : ℕ) → Float
rows_dot k a n i j = sum k (λ t. fmul (cell a n i t) (cell a n j t))

-- the value under the root of column j
unfoldable pub under_root : (n j : ℕ) (a : List Float) → Float
under_root n j a = fsub (cell a n j j) (rows_dot j a n j j)

-- the entry at row i below the diagonal entry r of column j
unfoldable pub factor_entry : (n j : ℕ) (r : Float) (i : ℕ) (a : List Float) → List Float
factor_entry n j r i a = put a n i j (fdiv (fsub (cell a n i j) (rows_dot j a n i j)) r)

-- column j with the diagonal entry r
unfoldable pub factor_below : (n j : ℕ) (r : Float) (a : List Float) → List Float
factor_below n j r a = span (j + 1) n (factor_entry n j r) (put a n j j r)

-- column j: "a value under the root that is NaN or not above 0 is a failure"
unfoldable pub factor_column : (n j : ℕ) (a : List Float) → Out (List Float)
factor_column n j a = pick (lt f0 (under_root n j a)) (out true (factor_below n j (sqrt (under_root n j a)) a)) (out false a)

-- whether a (n by n) has a factor, and what the list then holds; after a failure, the columns before it
unfoldable pub cholesky : (n : ℕ) (a : List Float) → Out (List Float)
cholesky n a = walk n (factor_column n) a

-- `const PIVOT_FLOOR: f64 = 1.0 / 67_108_864.0`
abbrev pub pivot_floor : Float
pivot_floor = of_bits binary64 0x3e50_0000_0000_0000

-- `.all(|&p| p * p >= PIVOT_FLOOR)`; a NaN is not
unfoldable pub positive_definite : (l : List Float) (n : ℕ) → Bool
positive_definite l n = all n (λ i. le pivot_floor (fmul (cell l n i i) (cell l n i i)))
