-- Laws of the definitions: how long each list is, what stands at each place, that only the n * m elements count.
use Rattle.std.specs.Prelude.{◌≡◌, refl, List, ℕ, ◌*◌, ◌<◌, length, Float}
use Rattle.std.proofs.Common.{sym, ◌∙◌, eq-eqb, ne_eqb}
use Rattle.std.specs.Float.Ieee.{nan}
use Rattle.folds.specs.Fold.{over, pick}
use Rattle.folds.specs.Tab.{length-tab, length-tab_m, get_d_tab, get_d_tab_m, tab_m-same, over-all}
use Rattle.arith.specs.Float.{fdiv, f0, f1, at}
use Rattle.arith.specs.Neutral.{sum-same}
use Rattle.vector.specs.Laws.{Same}
use Rattle.reductions.specs.Reductions.{dot}
use Rattle.columns.specs.Columns.{cell, column}
use Rattle.columns.specs.Laws.{column-at, cell-tab_m, cell-same}
use Rattle.matrix.specs.Matrix.{row_dot, mul_vec, column_dot, tr_mul_vec, cell_dot, mul, columns_dot, tr_mul, transpose}
use Rattle.matrix.specs.Matrix.{unit, identity, index, select_rows, select_columns, rows_divided, columns_divided}

-- ---- lengths
module _ (n : ℕ) where
  pub length-identity : length (identity n) ≡ n * n
  unfolding identity
  length-identity = length-tab_m n n unit

  pub length-select_columns : (a : List Float) (k : ℕ) (l : List ℕ) → length (select_columns n a k l) ≡ n * k
  unfolding select_columns
  length-select_columns a k l = length-tab_m n k _

module _ (n m : ℕ) where
  pub length-mul_vec : (a x : List Float) → length (mul_vec n m a x) ≡ n
  unfolding mul_vec
  length-mul_vec a x = length-tab n _

  pub length-tr_mul_vec : (a x : List Float) → length (tr_mul_vec n m a x) ≡ m
  unfolding tr_mul_vec
  length-tr_mul_vec a x = length-tab m _

  pub length-mul : (p : ℕ) (a b : List Float) → length (mul n p m a b) ≡ n * m
  unfolding mul
  length-mul p a b = length-tab_m n m _

  pub length-tr_mul : (p : ℕ) (a b : List Float) → length (tr_mul n p m a b) ≡ p * m
  unfolding tr_mul
  length-tr_mul p a b = length-tab_m p m _

  pub length-transpose : (a : List Float) → length (transpose n m a) ≡ m * n
  unfolding transpose
  length-transpose a = length-tab_m m n _

  pub length-select_rows : (a : List Float) (k : ℕ) (l : List ℕ) → length (select_rows n m a k l) ≡ k * m
  unfolding select_rows
  length-select_rows a k l = length-tab_m k m _

  pub length-rows_divided : (a by : List Float) → length (rows_divided n m a by) ≡ n * m
  unfolding rows_divided
  length-rows_divided a by = length-tab_m n m _

  pub length-columns_divided : (a by : List Float) → length (columns_divided n m a by) ≡ n * m
  unfolding columns_divided
  length-columns_divided a by = length-tab_m n m _

-- ---- entries
module _ (n m i j : ℕ) (p : i < n) (q : j < m) where
  pub mul-at : (k : ℕ) (a b : List Float) → cell (mul n k m a b) n i j ≡ cell_dot n k a b i j
  unfolding mul
  mul-at k a b = cell-tab_m n m i j p q (cell_dot n k a b)

  -- here n and m are the columns of a and of b
  pub tr_mul-at : (k : ℕ) (a b : List Float) → cell (tr_mul k n m a b) n i j ≡ columns_dot k a b i j
  unfolding tr_mul
  tr_mul-at k a b = cell-tab_m n m i j p q (columns_dot k a b)

  pub transpose-at : (a : List Float) → cell (transpose m n a) n i j ≡ cell a m j i
  unfolding transpose
  transpose-at a = cell-tab_m n m i j p q (λ i j. cell a m j i)

  pub select_rows-at : (k : ℕ) (a : List Float) (l : List ℕ) → cell (select_rows k m a n l) n i j ≡ cell a k (index l i) j
  unfolding select_rows
  select_rows-at k a l = cell-tab_m n m i j p q (λ i j. cell a k (index l i) j)

  pub select_columns-at : (a : List Float) (l : List ℕ) → cell (select_columns n a m l) n i j ≡ cell a n i (index l j)
  unfolding select_columns
  select_columns-at a l = cell-tab_m n m i j p q (λ i j. cell a n i (index l j))

  pub rows_divided-at : (a by : List Float) → cell (rows_divided n m a by) n i j ≡ fdiv (cell a n i j) (at by i)
  unfolding rows_divided
  rows_divided-at a by = cell-tab_m n m i j p q (λ i j. fdiv (cell a n i j) (at by i))

  pub columns_divided-at : (a by : List Float) → cell (columns_divided n m a by) n i j ≡ fdiv (cell a n i j) (at by j)
  unfolding columns_divided
  columns_divided-at a by = cell-tab_m n m i j p q (λ i j. fdiv (cell a n i j) (at by j))

pub unit-same : (i : ℕ) → unit i i ≡ f1
unfolding unit pick
unit-same i = rw (eq-eqb i i refl)

pub unit_other : (i j : ℕ) → (i ≡ j → ⊥) → unit i j ≡ f0
unfolding unit pick
unit_other i j h = rw (ne_eqb i j h)

pub identity-at : (n i j : ℕ) → i < n → j < n → cell (identity n) n i j ≡ unit i j
unfolding identity
identity-at n i j p q = get_d_tab_m nan n n i j unit p q

module _ (n m : ℕ) where
  pub mul_vec-at : (a x : List Float) (i : ℕ) → i < n → at (mul_vec n m a x) i ≡ row_dot n m a i x
  unfolding mul_vec
  mul_vec-at a x i h = get_d_tab nan n i _ h

  pub tr_mul_vec-at : (a x : List Float) (j : ℕ) → j < m → at (tr_mul_vec n m a x) j ≡ column_dot n a j x
  unfolding tr_mul_vec
  tr_mul_vec-at a x j h = get_d_tab nan m j _ h

pub over-identity : (n : ℕ) (o : List Float) → length o ≡ n * n → over (identity n) o ≡ identity n
over-identity n o e = over-all (identity n) o (length-identity n ∙ sym e)

-- ---- sums over columns, as the vector's product
pub column-dot : (n : ℕ) (a x : List Float) (j : ℕ) → dot n (column n a j) x ≡ column_dot n a j x
unfolding dot column_dot
column-dot n a x j = sum-same n _ _ (λ i p. rw (column-at n a j i p))

pub columns-dot : (n : ℕ) (a b : List Float) (i j : ℕ) → dot n (column n a i) (column n b j) ≡ columns_dot n a b i j
unfolding dot columns_dot
columns-dot n a b i j = sum-same n _ _ (λ k p. rw (column-at n a i k p, column-at n b j k p))

pub cell-dot : (n m : ℕ) (a b : List Float) (i j : ℕ) → row_dot n m a i (column m b j) ≡ cell_dot n m a b i j
unfolding row_dot cell_dot
cell-dot n m a b i j = sum-same m _ _ (λ k p. rw (column-at m b j k p))

-- ---- only the elements of the matrix count
module _ (n m : ℕ) (a b : List Float) (e : Same (n * m) a b) where
  pub rows_divided-same : (x y : List Float) → Same n x y → rows_divided n m a x ≡ rows_divided n m b y
  unfolding rows_divided
  rows_divided-same x y f = tab_m-same n m _ _ (λ i j p q. rw (cell-same n m i j p q a b e, f i p))

  pub columns_divided-same : (x y : List Float) → Same m x y → columns_divided n m a x ≡ columns_divided n m b y
  unfolding columns_divided
  columns_divided-same x y f = tab_m-same n m _ _ (λ i j p q. rw (cell-same n m i j p q a b e, f j q))

  -- a is n by m: a times c, m by k
  pub mul-same : (k : ℕ) (c d : List Float) → Same (m * k) c d → mul n m k a c ≡ mul n m k b d
  unfolding mul cell_dot
  mul-same k c d f = tab_m-same n k _ _ (λ i j p q. sum-same m _ _ (λ t h. rw (cell-same n m i t p h a b e, cell-same m k t j h q c d f)))
