-- Matrices: a list of columns one after the other, and the number of rows. Quotients, sums, differences, norms and amax are the vector's, of n * m.
use Rattle.std.specs.Prelude.{ℕ, List, eqb, get_or, Float}
use Rattle.folds.specs.Fold.{tab, tab_m, pick}
use Rattle.arith.specs.Float.{fmul, fdiv, f0, f1, at, sum}
use Rattle.columns.specs.Columns.{cell}

unfoldable pub trace : (n : ℕ) (a : List Float) → Float
trace n a = sum n (λ i. cell a n i i)

-- a is n by m: a x, by row i of a times x, and aᵀ x, by column j of a times x
unfoldable pub row_dot : (n m : ℕ) (a : List Float) (i : ℕ) (x : List Float) → Float
row_dot n m a i x = sum m (λ j. fmul (cell a n i j) (at x j))

unfoldable pub mul_vec : (n m : ℕ) (a x : List Float) → List Float
mul_vec n m a x = tab n (λ i. row_dot n m a i x)

unfoldable pub column_dot : (n : ℕ) (a : List Float) (j : ℕ) (x : List Float) → Float
column_dot n a j x = sum n (λ i. fmul (cell a n i j) (at x i))

unfoldable pub tr_mul_vec : (n m : ℕ) (a x : List Float) → List Float
tr_mul_vec n m a x = tab m (λ j. column_dot n a j x)

-- a is n by p, b p by m: a b, by row i of a times column j of b
unfoldable pub cell_dot : (n p : ℕ) (a b : List Float) (i j : ℕ) → Float
cell_dot n p a b i j = sum p (λ k. fmul (cell a n i k) (cell b p k j))

unfoldable pub mul : (n p m : ℕ) (a b : List Float) → List Float
mul n p m a b = tab_m n m (cell_dot n p a b)

-- a is n by p, b n by m: aᵀ b, by column i of a times column j of b
unfoldable pub columns_dot : (n : ℕ) (a b : List Float) (i j : ℕ) → Float
columns_dot n a b i j = sum n (λ k. fmul (cell a n k i) (cell b n k j))

unfoldable pub tr_mul : (n p m : ℕ) (a b : List Float) → List Float
tr_mul n p m a b = tab_m p m (columns_dot n a b)

-- a is n by m
unfoldable pub transpose : (n m : ℕ) (a : List Float) → List Float
transpose n m a = tab_m m n (λ i j. cell a n j i)

unfoldable pub unit : (i j : ℕ) → Float
unit i j = pick (eqb i j) f1 f0

unfoldable pub identity : ℕ → List Float
identity n = tab_m n n unit

-- the i-th number of a list
abbrev pub index : (indices : List ℕ) (i : ℕ) → ℕ
index l i = get_or l i 0

-- `select_rows`, `select_columns`: the k rows of a (n by m) that the list names, and the k columns
unfoldable pub select_rows : (n m : ℕ) (a : List Float) (k : ℕ) (indices : List ℕ) → List Float
select_rows n m a k l = tab_m k m (λ i j. cell a n (index l i) j)

unfoldable pub select_columns : (n : ℕ) (a : List Float) (k : ℕ) (indices : List ℕ) → List Float
select_columns n a k l = tab_m n k (λ i j. cell a n i (index l j))

-- a is n by m: each row over its element of `by`, and each column
unfoldable pub rows_divided : (n m : ℕ) (a by : List Float) → List Float
rows_divided n m a by = tab_m n m (λ i j. fdiv (cell a n i j) (at by i))

unfoldable pub columns_divided : (n m : ℕ) (a by : List Float) → List Float
columns_divided n m a by = tab_m n m (λ i j. fdiv (cell a n i j) (at by j))
