-- eigen.rs: the symmetric eigendecomposition by the cyclic Jacobi method, from the identity.
use Rattle.std.specs.Prelude.{ℕ, ◌+◌, ◌*◌, Bool, true, false, not, List, Float}
use Rattle.std.specs.Float.Ieee.{eq, lt, le, is_nan}
use Rattle.folds.specs.Fold.{fold, span, pick, tab, tab_m, Out, out}
use Rattle.folds.specs.Part.{two}
use Rattle.folds.specs.Run.{run, Pass, more, done}
use Rattle.folds.specs.Chosen.{chosen}
use Rattle.arith.specs.Float.{fadd, fmul, sqrt, f0, f2, fhalf, epsilon, at}
use Rattle.reductions.specs.Reductions.{norm, amax, all_finite}
use Rattle.vector.specs.Vector.{divided, filled}
use Rattle.columns.specs.Columns.{cell}
use Rattle.matrix.specs.Matrix.{tr_mul, mul, identity}
use Rattle.rotation.specs.Rotation.{State, rotate}

-- ---- `SymmetricEigen::new`

-- `for p in 0..n { for q in p + 1..n { rotate(&mut a, &mut v, p, q); } }`
unfoldable pub sweep_row : (n p : ℕ) → State → State
sweep_row n p s = span (p + 1) n (rotate n p) s

unfoldable pub sweep : (n : ℕ) → State → State
sweep n s = fold n (sweep_row n) s

-- `off_diagonal`: the sum of `a[(p, q)] * a[(p, q)]`, p by p, with q above p
unfoldable pub off_row : (n : ℕ) (a : List Float) (p : ℕ) (s : Float) → Float
off_row n a p s = span (p + 1) n (λ q z. fadd z (fmul (cell a n p q) (cell a n p q))) s

unfoldable pub off_diagonal : (n : ℕ) (a : List Float) → Float
off_diagonal n a = fold n (off_row n a) f0

-- `if off_diagonal.is_nan() { break; }`, found where `(2.0 * off_diagonal).sqrt() <= tolerance`, else a sweep
unfoldable pub pass : (n : ℕ) (tolerance : Float) → State → Pass State (Out State)
pass n tolerance (two a v) =
    pick (is_nan (off_diagonal n a)) (done (out false (two a v)))
    (pick (le (sqrt (fmul f2 (off_diagonal n a))) tolerance) (done (out true (two a v)))
    (more (sweep n (two a v))))

-- `for _ in 0..MAX_SWEEPS`, 100, then `None`; `let tolerance = f64::EPSILON * a.norm()`
unfoldable pub sweeps : (n : ℕ) (tolerance : Float) → State → Out State
unfolding run
sweeps n tolerance s = run (λ i. pass n tolerance) (λ i z. out false z) 100 0 (more s)

unfoldable pub tolerance : (n : ℕ) (a : List Float) → Float
tolerance n a = fmul epsilon (norm (n * n) a)

-- `v.transpose() * a * &v`, with V the identity: document 01, "`try_symmetric_eigen` gives nothing"
unfoldable pub rotated : (n : ℕ) (a : List Float) → List Float
rotated n a = mul n n n (tr_mul n n n (identity n) a) (identity n)

-- `(&rotated + rotated.transpose()) * 0.5`
unfoldable pub mean : (n : ℕ) (r : List Float) (i j : ℕ) → Float
mean n r i j = fmul (fadd (cell r n i j) (cell r n j i)) fhalf

unfoldable pub symmetric : (n : ℕ) (r : List Float) → List Float
symmetric n r = tab_m n n (mean n r)

-- the matrix that the sweeps start from, of `a / scale`
unfoldable pub start : (n : ℕ) (a : List Float) (scale : Float) → List Float
start n a scale = symmetric n (rotated n (divided (n * n) a scale))

-- `Some(SymmetricEigen { values, vectors })`, `None`
pub data Eigen : Type 0 where
  eigen : (values vectors : List Float) → Eigen
  nothing : Eigen

unfoldable pub values : (n : ℕ) (a : List Float) (scale : Float) → List Float
values n a scale = tab n (λ i. fmul (cell a n i i) scale)

abbrev pub answer : (n : ℕ) (scale : Float) → Out State → Eigen
answer n scale (out true (two a v)) = eigen (values n a scale) v
answer n scale (out false s) = nothing

unfoldable pub jacobi : (n : ℕ) (a : List Float) (scale : Float) → Eigen
jacobi n a scale = answer n scale (sweeps n (tolerance n (start n a scale)) (two (start n a scale) (identity n)))

unfoldable pub symmetric_eigen : (n : ℕ) (a : List Float) → Eigen
symmetric_eigen n a =
    pick (all_finite (n * n) a)
    (pick (eq (amax (n * n) a) f0) (eigen (filled n f0) (identity n)) (jacobi n a (amax (n * n) a)))
    nothing

-- what a call gave: its two lists, or nothing where it says that there is no decomposition
unfoldable pub given : (found : Bool) (values vectors : List Float) → Eigen
given true l v = eigen l v
given false l v = nothing

-- ---- `split`: the numbers k of the eigenvalues with `value > cutoff`, and of the others
unfoldable pub range : (n : ℕ) (l : List Float) (cutoff : Float) → List ℕ
range n l cutoff = chosen n (λ k. lt cutoff (at l k))

unfoldable pub null : (n : ℕ) (l : List Float) (cutoff : Float) → List ℕ
null n l cutoff = chosen n (λ k. not (lt cutoff (at l k)))
