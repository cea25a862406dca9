-- qp.rs, how far a step goes: `ratio_test` along a direction, and the full step's own rule towards a target.
use Rattle.std.specs.Prelude.{ℕ, ◌≤◌, Bool, List, length, Float, Option, Some, None}
use Rattle.std.specs.Float.{binary64}
use Rattle.std.specs.Float.Ieee.{of_bits, lt}
use Rattle.folds.specs.Fold.{pick, both}
use Rattle.folds.specs.Best.{first_least}
use Rattle.arith.specs.Float.{fadd, fsub, fmul, fdiv, fneg, at}
use Rattle.arith.specs.Scalar.{max, is_finite, total_less}
use Rattle.reductions.specs.Reductions.{amax}
use Rattle.step_length.specs.declared.Side.{Side}
use Rattle.step_length.specs.declared.Side.TheVariants.{Lower, Upper}

-- 1e-12
abbrev pub rounding : Float
rounding = of_bits binary64 0x3d71_9799_812d_ea11

-- each list has n entries
pub record Entries (n : ℕ) (x d lower upper : List Float) : Type 0 where
  pub x_holds : n ≤ length x
  pub d_holds : n ≤ length d
  pub lower_holds : n ≤ length lower
  pub upper_holds : n ≤ length upper

-- ---- `(0..n).filter_map(..).min_by(|a, b| a.0.total_cmp(&b.0))`: of equal steps the first
abbrev pub shorter : (a b : Float × ℕ × Side) → Bool
shorter a b = total_less a.0 b.0

-- ---- `ratio_test`
-- `d[k] < -tolerance && lower[k].is_finite()`
unfoldable pub moves_down : (d lower tolerance : Float) → Bool
moves_down d lower tolerance = both (lt d (fneg tolerance)) (is_finite lower)

-- `d[k] > tolerance && upper[k].is_finite()`
unfoldable pub moves_up : (d upper tolerance : Float) → Bool
moves_up d upper tolerance = both (lt tolerance d) (is_finite upper)

-- `Some(((x[k] - lower[k]) / -d[k], k, Side::Lower))`, `Some(((upper[k] - x[k]) / d[k], k, Side::Upper))`, or `None`
unfoldable pub end_reached : (x d lower upper tolerance : Float) (k : ℕ) → Option (Float × ℕ × Side)
end_reached x d lower upper tolerance k =
    pick (moves_down d lower tolerance) (Some ((fdiv (fsub x lower) (fneg d)), k, Lower))
    (pick (moves_up d upper tolerance) (Some ((fdiv (fsub upper x) d), k, Upper))
    None)

-- `let tolerance = 1e-12 * d.amax()`: of every entry, the slacks' too
unfoldable pub ratio_test : (n : ℕ) (x d lower upper : List Float) → Option (Float × ℕ × Side)
ratio_test n x d lower upper =
    first_least shorter n (λ k. end_reached (at x k) (at d k) (at lower k) (at upper k) (fmul rounding (amax n d)) k)

-- ---- the full step
-- `1e-12 * target.rows(0, solved.len()).amax().max(variables.amax())`
unfoldable pub step_tolerance : (solved : ℕ) (target : List Float) (originals : ℕ) (x : List Float) → Float
step_tolerance solved target originals x = fmul rounding (max (amax solved target) (amax originals x))

-- `target[k] < lower[k] - tolerance`, `target[k] > upper[k] + tolerance`: no end is asked to be finite, and the step is a part of the way
unfoldable pub end_passed : (x target lower upper tolerance : Float) (k : ℕ) → Option (Float × ℕ × Side)
end_passed x target lower upper tolerance k =
    pick (lt target (fsub lower tolerance)) (Some ((fdiv (fsub x lower) (fsub x target)), k, Lower))
    (pick (lt (fadd upper tolerance) target) (Some ((fdiv (fsub upper x) (fsub target x)), k, Upper))
    None)

unfoldable pub first_passed : (n : ℕ) (x target lower upper : List Float) (tolerance : Float) → Option (Float × ℕ × Side)
first_passed n x target lower upper tolerance =
    first_least shorter n (λ k. end_passed (at x k) (at target k) (at lower k) (at upper k) tolerance k)
