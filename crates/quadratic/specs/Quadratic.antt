-- The problem of qp.rs's `solve_piecewise` and `solve_bounded`, and what is refused before the engine. n originals, m equality columns, r rows; Q is
-- n by n, E is n by m, the rows' a is n by r.
use Rattle.std.specs.Prelude.{ℕ, ◌+◌, ◌*◌, Bool, true, List, length, leb, eqb, Float}
use Rattle.folds.specs.Fold.{pick, both}
use Rattle.sizes.specs.Sizes as Sizes
use Rattle.reductions.specs.Reductions.{any_nan}

-- the arguments: `q`, `c`, `e`, `b`, `bounds` (lower, upper and the rows' a, lower, upper), `kinks` (at, slopes), `start`
pub data Quadratic : Type 0 where
  quadratic : (n m r : ℕ) (q c e b lower upper a row_lower row_upper at slopes start : List Float) → Quadratic

-- ---- what is refused before the engine
-- document 01, 'Engine sizes', and each slice as long as its counts give: the matrices with c and b, and then the lists
unfoldable pub sized : (n m r q c e b a : ℕ) → Bool
sized n m r q c e b a =
    both (leb n Sizes.originals)
    (both (leb m Sizes.equalities)
    (both (leb r Sizes.rows)
    (both (eqb q (n * n))
    (both (eqb c n)
    (both (eqb e (n * m))
    (both (eqb b m)
    (eqb a (n * r))))))))

unfoldable pub long : (n m r lower upper row_lower row_upper at slopes start x multipliers : ℕ) → Bool
long n m r lower upper row_lower row_upper at slopes start x multipliers =
    both (eqb lower n)
    (both (eqb upper n)
    (both (eqb row_lower r)
    (both (eqb row_upper r)
    (both (eqb at n)
    (both (eqb slopes n)
    (both (eqb start n)
    (both (eqb x n)
    (eqb multipliers (m + r)))))))))

-- with the lengths of the slices for x and the multipliers
unfoldable pub shaped : Quadratic → (x_length multipliers_length : ℕ) → Bool
shaped (quadratic n m r q c e b lower upper a row_lower row_upper at slopes start) x multipliers =
    both (sized n m r (length q) (length c) (length e) (length b) (length a))
    (long n m r (length lower) (length upper) (length row_lower) (length row_upper) (length at) (length slopes) (length start) x multipliers)

-- document 01, 'NaN bound of a variable or row, where the Rust panics'
unfoldable pub blank : (n r : ℕ) (lower upper row_lower row_upper : List Float) → Bool
blank n r lower upper row_lower row_upper = pick (any_nan n lower) true (pick (any_nan n upper) true (pick (any_nan r row_lower) true (any_nan r row_upper)))
