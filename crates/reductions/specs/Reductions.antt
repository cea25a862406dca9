-- What a vector, a list and how many of its elements count, comes to. Document 01: "Every sum .. starts at +0 and adds in rising index order."
use Rattle.std.specs.Prelude.{ℕ, Bool, List, Float}
use Rattle.std.specs.Float.{nan}
use Rattle.std.specs.Float.Ieee.{is_nan, eq}
use Rattle.folds.specs.Fold.{fold, pick, all, some}
use Rattle.arith.specs.Float.{fmul, fdiv, sqrt, f0, at, sum}
use Rattle.arith.specs.Scalar.{abs, max, is_finite, is_infinite}

unfoldable pub dot : (n : ℕ) (a b : List Float) → Float
dot n a b = sum n (λ k. fmul (at a k) (at b k))

-- "`powi(2)` is v times v."
unfoldable pub sum_squares : (n : ℕ) (a : List Float) → Float
sum_squares n a = sum n (λ k. fmul (at a k) (at a k))

-- "The `norm()` of a column or matrix is the root of the sum of squares, column after column."
unfoldable pub norm : (n : ℕ) (a : List Float) → Float
norm n a = sqrt (sum_squares n a)

-- "`amax` passes over NaN and is 0 for nothing or for NaN alone."
unfoldable pub amax : (n : ℕ) (a : List Float) → Float
amax n a = fold n (λ k m. max m (abs (at a k))) f0

unfoldable pub any_nan : (n : ℕ) (a : List Float) → Bool
any_nan n a = some n (λ k. is_nan (at a k))

unfoldable pub all_finite : (n : ℕ) (a : List Float) → Bool
all_finite n a = all n (λ k. is_finite (at a k))

-- `m.iter().map(|v| (v / largest).powi(2)).sum()`
unfoldable pub quotient_squares : (n : ℕ) (a : List Float) (largest : Float) → Float
quotient_squares n a l = sum n (λ k. fmul (fdiv (at a k) l) (fdiv (at a k) l))

-- qp.rs's own `norm`, `largest * ..sqrt()`: NaN if an element is, infinite if one is
unfoldable pub scaled_norm : (n : ℕ) (a : List Float) → Float
scaled_norm n a =
    pick (any_nan n a) nan
    (pick (eq (amax n a) f0) (amax n a)
    (pick (is_infinite (amax n a)) (amax n a)
    (fmul (amax n a) (sqrt (quotient_squares n a (amax n a))))))

unfoldable pub total_abs : (n : ℕ) (a : List Float) → Float
total_abs n a = sum n (λ k. abs (at a k))
