-- Laws of the definitions: entries and columns, that only the n * m elements count, one entry written, a matrix written column by column.
use Rattle.std.specs.Prelude.{◌≡◌, List, length, Float}
use Rattle.std.proofs.Math.Path.{refl}
use Rattle.std.proofs.Common.{sym, ap, ◌∙◌, ⊎_elim, le_refl, eq-or-lt_of_le, mul-le-mul_right, mul_comm, suc-mul, rules, get_or-set_same}
use Prim.Native.Nat.{ℕ, zero, suc, ◌+◌, ◌*◌, ◌<◌, ◌≤◌}
use native.Mathlib.Omega.{arith}
use Rattle.std.proofs.Math.Seq.{get_or-set_other}
use Rattle.std.specs.Float.Ieee.{nan}
use Rattle.folds.specs.Fold.{fold, folds, fold_call, fold_turn, fold_end, fold-same, tab, tab_m, over}
use Rattle.folds.specs.Tab.{length-tab, get_d_tab, get_d_tab_m, tab_m-same, tab_m_flat, tab-all, over_in, over-tab_m}
use Rattle.folds.specs.Cell.{cell-lt}
use Rattle.folds.specs.Decide.{lt-or-le}
use Rattle.arith.specs.Float.{at}
use Rattle.reductions.specs.Reductions.{amax}
use Rattle.vector.specs.Laws.{Same, over_by}
use Rattle.columns.specs.Columns.{cell, put, column, columns_amax, put_column}

-- ---- columns
module _ (n : ℕ) where
  pub length-column : (a : List Float) (j : ℕ) → length (column n a j) ≡ n
  unfolding column
  length-column a j = length-tab n _

  pub column-at : (a : List Float) (j i : ℕ) → i < n → at (column n a j) i ≡ cell a n i j
  unfolding column
  column-at a j i h = get_d_tab nan n i _ h

module _ (n m : ℕ) where
  pub length-columns_amax : (a : List Float) → length (columns_amax n m a) ≡ m
  unfolding columns_amax
  length-columns_amax a = length-tab m _

  pub columns_amax-at : (a : List Float) (j : ℕ) → j < m → at (columns_amax n m a) j ≡ amax n (column n a j)
  unfolding columns_amax
  columns_amax-at a j h = get_d_tab nan m j _ h

-- ---- entries
module _ (n m i j : ℕ) (p : i < n) (q : j < m) where
  pub cell-tab_m : (g : ℕ → ℕ → Float) → cell (tab_m n m g) n i j ≡ g i j
  cell-tab_m g = get_d_tab_m nan n m i j g p q

  pub cell-over : (l o : List Float) → n * m ≤ length l → cell (over l o) n i j ≡ cell l n i j
  cell-over l o h = over_in nan l o (i + j * n) (cell-lt i j n m (length l) h p q)

  pub cell-same : (a b : List Float) → Same (n * m) a b → cell a n i j ≡ cell b n i j
  cell-same a b e = e (i + j * n) (cell-lt i j n m (n * m) (le_refl (n * m)) p q)

-- a list with these entries is the matrix
pub tab_m-all : (n m : ℕ) (g : ℕ → ℕ → Float) (l : List Float) → length l ≡ n * m → ((i j : ℕ) → i < n → j < m → cell l n i j ≡ g i j) → tab_m n m g ≡ l
tab_m-all n m g l e h =
    tab_m-same n m g (λ i j. cell l n i j) (λ i j p q. sym (h i j p q)) ∙ tab_m_flat n m (at l) ∙ tab-all nan (m * n) l (e ∙ mul_comm n m)

-- a list whose entries are g i j, and whose other elements are o's
pub over_m_by : (n m : ℕ) (g : ℕ → ℕ → Float) (s o : List Float) → n * m ≤ length o → length s ≡ length o →
    ((i j : ℕ) → i < n → j < m → cell s n i j ≡ g i j) → ((k : ℕ) → n * m ≤ k → at s k ≡ at o k) → s ≡ over (tab_m n m g) o
over_m_by n m g s o h e f r =
    over_by (n * m) (at s) s o h e (λ k _. refl) r
    ∙ ap (λ l. over l o)
    (ap (λ k. tab k (at s)) (mul_comm n m) ∙ sym (tab_m_flat n m (at s)) ∙ tab_m-same n m (λ i j. cell s n i j) g f)

-- ---- one entry written

-- places of a matrix of n rows in different columns
pub apart : (n i k j t : ℕ) → i < n → k < n → j < t → i + j * n ≡ k + t * n → ⊥
apart n i k j t p q l e = omega (arith, mul-le-mul_right n l, suc-mul j n)

-- a place has one row and one column
pub place-same : (n i j k t : ℕ) → i < n → k < n → i + j * n ≡ k + t * n → (i ≡ k) × (j ≡ t)
place-same n i j k t p q e =
    let z : j ≡ t = ⊎_elim
    (λ (l : j < t). absurd (apart n i k j t p q l e))
    (λ (l : t ≤ j). ⊎_elim (λ (w : t ≡ j). sym w) (λ (w : t < j). absurd (apart n k i t j q p w (sym e))) (eq-or-lt_of_le l))
    (lt-or-le j t) in
    let y : i + t * n ≡ k + t * n = rw (← z) (rw (← z) at e) in
    (omega arith, z)

module _ (n i j : ℕ) (v : Float) (a : List Float) where
  pub put-same : (m : ℕ) → n * m ≤ length a → i < n → j < m → cell (put a n i j v) n i j ≡ v
  put-same m h p q = get_or-set_same a (i + j * n) v nan (cell-lt i j n m (length a) h p q)

  -- in another row, and in another column
  pub put-row : (k t : ℕ) → i < n → k < n → (k ≡ i → ⊥) → cell (put a n i j v) n k t ≡ cell a n k t
  put-row k t p q d = get_or-set_other a (i + j * n) (k + t * n) v nan (λ e. d (place-same n k t i j q p e).0)

  pub put-column : (k t : ℕ) → i < n → k < n → (t ≡ j → ⊥) → cell (put a n i j v) n k t ≡ cell a n k t
  put-column k t p q d = get_or-set_other a (i + j * n) (k + t * n) v nan (λ e. d (place-same n k t i j q p e).1)

-- ---- a loop down a column
module _ (n j : ℕ) (g : ℕ → Float) (a : List Float) where
  pub column-none : a ≡ put_column 0 n j g a
  unfolding put_column fold
  column-none = refl

  pub column_turn : {l : List Float} (k : ℕ) → l ≡ put_column k n j g a → put l n k j (g k) ≡ put_column (k + 1) n j g a
  unfolding put_column
  column_turn k e = fold_turn k (λ i l. put l n i j (g i)) a e

  pub column_call : {r l : List Float} (k : ℕ) → l ≡ put_column k n j g a → r ≡ put l n k j (g k) → r ≡ put_column (k + 1) n j g a
  column_call k e f = f ∙ column_turn k e

  pub column_end : {l : List Float} (k m : ℕ) → k ≤ m → m ≤ k → l ≡ put_column k n j g a → l ≡ put_column m n j g a
  unfolding put_column
  column_end k m p q e = fold_end k m (λ i l. put l n i j (g i)) a p q e

  -- the entries from k on are as they were
  pub column-kept : (k i : ℕ) → k ≤ i → cell (put_column k n j g a) n i j ≡ cell a n i j
  unfolding put_column fold
  column-kept zero i h = refl
  column-kept (suc k) i h =
      let differ : i + j * n ≡ k + j * n → ⊥ = λ e. omega arith in
      get_or-set_other (put_column k n j g a) (k + j * n) (i + j * n) (g k) nan differ ∙ column-kept k i (omega arith)

-- the other columns are as they were
pub column_other : (n j t : ℕ) (g : ℕ → Float) (a : List Float) (k i : ℕ) → k ≤ n → i < n → j < t → cell (put_column k n j g a) n i t ≡ cell a n i t
unfolding put_column fold
column_other n j t g a zero i h p l = refl
column_other n j t g a (suc k) i h p l =
    get_or-set_other (put_column k n j g a) (k + j * n) (i + t * n) (g k) nan (λ e. apart n k i j t (omega arith) p l (sym e))
    ∙ column_other n j t g a k i (omega arith) p l

pub put_column-same : (k n j : ℕ) (g h : ℕ → Float) (a : List Float) → ((i : ℕ) → i < k → g i ≡ h i) → put_column k n j g a ≡ put_column k n j h a
unfolding put_column
put_column-same k n j g h a e = fold-same k (λ i l. put l n i j (g i)) (λ i l. put l n i j (h i)) a (λ i l p. rw (e i p))

-- an entry that is made from itself, in place
pub column_edit : {r l : List Float} (n j : ℕ) (h : ℕ → Float → Float) (a : List Float) (k : ℕ) → l ≡ put_column k n j (λ i. h i (cell a n i j)) a →
    r ≡ put l n k j (h k (cell l n k j)) → r ≡ put_column (k + 1) n j (λ i. h i (cell a n i j)) a
column_edit {r} {l} n j h a k e f =
    let g : ℕ → Float = λ i. h i (cell a n i j) in
    let z : cell l n k j ≡ cell a n k j = rw e (column-kept n j g a k k (le_refl k)) in
    column_call n j g a k e (f ∙ rw z)

pub ruleset columns = (column-none, column_turn, column_call, column_end)

pub ruleset column-kit = (columns, rules)

-- ---- and over the columns: the matrix, written over the start of o
pub over-columns : {s : List Float} (k n m : ℕ) (g : ℕ → ℕ → Float) (o : List Float) → k ≤ m → m ≤ k → n * m ≤ length o →
    s ≡ fold k (λ j l. put_column n n j (λ i. g i j) l) o → s ≡ over (tab_m n m g) o
unfolding put_column
over-columns k n m g o p q h e = over-tab_m k n m g o p q h e

-- the columns from k on are as they were
pub columns-kept : (k n i j : ℕ) (g : ℕ → ℕ → Float) (a : List Float) → i < n → k ≤ j →
    cell (fold k (λ t l. put_column n n t (λ i. g i t) l) a) n i j ≡ cell a n i j
unfolding fold
columns-kept zero n i j g a p h = refl
columns-kept (suc k) n i j g a p h = column_other n k j (λ i. g i k) _ n i (le_refl n) p (omega arith) ∙ columns-kept k n i j g a p (omega arith)

-- a column whose entries are made from themselves, in place
pub columns_edit : {r l : List Float} (n : ℕ) (h : ℕ → ℕ → Float → Float) (a : List Float) (k : ℕ) →
    l ≡ fold k (λ t x. put_column n n t (λ i. h i t (cell a n i t)) x) a → r ≡ put_column n n k (λ i. h i k (cell l n i k)) l →
    r ≡ fold (k + 1) (λ t x. put_column n n t (λ i. h i t (cell a n i t)) x) a
columns_edit {r} {l} n h a k e f =
    let g : ℕ → ℕ → Float = λ i t. h i t (cell a n i t) in
    let z : (i : ℕ) → i < n → h i k (cell l n i k) ≡ g i k = λ i p. ap (h i k) (rw e (columns-kept k n i k g a p (le_refl k))) in
    fold_call k (λ t x. put_column n n t (λ i. g i t) x) a e (f ∙ put_column-same n n k _ (λ i. g i k) l z)

pub ruleset matrix-kit = (folds, over-columns, rules)
