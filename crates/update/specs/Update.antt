-- A Cholesky factor as a variable leaves or joins, by document 01's rank-one step. The factor of n variables is the first n * n elements of its list,
-- column after column; only its lower triangle counts, and what lies past it keeps its value.
use Rattle.std.specs.Prelude.{ℕ, ◌+◌, ◌-◌, List, ltb, eqb, set, Float}
use Rattle.folds.specs.Fold.{span, tab, tab_m, pick, over}
use Rattle.folds.specs.Part.{two}
use Rattle.arith.specs.Float.{fsub, fdiv, fneg, f0, f1, at, sqrt}
use Rattle.reductions.specs.Reductions.{sum_squares}
use Rattle.vector.specs.Vector.{copy}
use Rattle.columns.specs.Columns.{cell}
use Rattle.triangular.specs.Triangular.{forward, known}
use Rattle.rank_one.specs.RankOne.{rank_one, factor_of}

-- ---- leaving: p of n + 1 variables

-- where the i-th of those that stay stood
unfoldable pub staying : (p i : ℕ) → ℕ
staying p i = pick (ltb i p) i (i + 1)

-- the rows and columns close up
unfoldable pub closed_entry : (n p : ℕ) (l : List Float) (i j : ℕ) → Float
closed_entry n p l i j = cell l (n + 1) (staying p i) (staying p j)

unfoldable pub closed : (n p : ℕ) (l : List Float) → List Float
closed n p l = tab_m n n (closed_entry n p l)

-- "Leaving: v is the removed column below its diagonal, s = +1": from row p on
unfoldable pub removed_entry : (n p : ℕ) (l : List Float) (i : ℕ) → Float
removed_entry n p l i = pick (ltb i p) f0 (cell l (n + 1) (i + 1) p)

unfoldable pub removed : (n p : ℕ) (l : List Float) → List Float
removed n p l = tab n (removed_entry n p l)

-- the factor of the n that stay, written over the start of o
unfoldable pub leave : (n p : ℕ) (l o : List Float) → List Float
leave n p l o = factor_of (rank_one n p f1 (two (over (closed n p l) o) (removed n p l)))

-- `remove_column`: p of k variables leaves
unfoldable pub remove_column : (k p : ℕ) (l : List Float) → List Float
remove_column k p l = leave (k - 1) p l l

-- ---- joining: at place p of n + 1 variables, with q the new variable's column of the matrix

-- "its diagonal is root(q_ii − w·w)", with w in the first p elements of x
unfoldable pub join_diagonal : (p : ℕ) (x : List Float) → List Float
join_diagonal p x = set x p (sqrt (fsub (at x p) (sum_squares p x)))

-- "the column below is (q − rows·w) over that diagonal"
unfoldable pub join_below : (n p : ℕ) (l : List Float) (i : ℕ) (x : List Float) → List Float
join_below n p l i x = set x i (fdiv (fsub (at x i) (known p l n (i - 1) x)) (at x p))

-- "the new row w comes from the triangular system", then its diagonal, then the column below, in one list
unfoldable pub joining : (n p : ℕ) (l q : List Float) → List Float
joining n p l q = span (p + 1) (n + 1) (join_below n p l) (join_diagonal p (forward p l n q))

-- where the i-th of n + 1 stood among n, for i other than p
unfoldable pub standing : (p i : ℕ) → ℕ
standing p i = pick (ltb p i) (i - 1) i

-- the new row and column p among the others
unfoldable pub joined_entry : (n p : ℕ) (l x : List Float) (i j : ℕ) → Float
joined_entry n p l x i j = pick (eqb i p) (at x j) (pick (eqb j p) (at x i) (cell l n (standing p i) (standing p j)))

unfoldable pub joined : (n p : ℕ) (l x : List Float) → List Float
joined n p l x = tab_m (n + 1) (n + 1) (joined_entry n p l x)

-- "then v is that column and s = −1": the factor of all n + 1, written over the start of o
unfoldable pub join : (n p : ℕ) (q l o : List Float) → List Float
join n p q l o = let x = joining n p l (copy (n + 1) q) in factor_of (rank_one (n + 1) (p + 1) (fneg f1) (two (over (joined n p l x) o) x))

-- `insert_column`: a variable joins n others at place p
unfoldable pub insert_column : (n p : ℕ) (q l : List Float) → List Float
insert_column n p q l = join n p q l l
