-- Matrices: a list of columns one after the other, and the number of rows.
use Rattle.std.specs.Prelude.{ℕ, ◌+◌, ◌*◌, List, set, Float}
use Rattle.folds.specs.Fold.{fold, tab}
use Rattle.arith.specs.Float.{at}
use Rattle.reductions.specs.Reductions.{amax}

-- row i, column j of a matrix of n rows
abbrev pub cell : (a : List Float) (n i j : ℕ) → Float
cell a n i j = at a (i + j * n)

abbrev pub put : (a : List Float) (n i j : ℕ) (v : Float) → List Float
put a n i j v = set a (i + j * n) v

unfoldable pub column : (n : ℕ) (a : List Float) (j : ℕ) → List Float
column n a j = tab n (λ i. cell a n i j)

-- the largest absolute value of each column
unfoldable pub columns_amax : (n m : ℕ) (a : List Float) → List Float
columns_amax n m a = tab m (λ j. amax n (column n a j))

-- a loop down column j of a matrix of n rows: its first k entries become g 0, .., g (k - 1)
unfoldable pub put_column : (k n j : ℕ) (g : ℕ → Float) (a : List Float) → List Float
put_column k n j g a = fold k (λ i l. put l n i j (g i)) a
