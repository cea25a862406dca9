-- qp.rs, `descent_ray`: the ray of a problem that is scaled. K is n by n, E is n by m, Z is n by d; c and the direction have n elements.
use Rattle.std.specs.Prelude.{Option, Some, None, ℕ, ◌-◌, List, take, Float}
use Rattle.std.specs.Float.{binary64}
use Rattle.std.specs.Float.Ieee.{le, eq, of_bits}
use Rattle.folds.specs.Fold.{pick}
use Rattle.arith.specs.Float.{fmul, f0}
use Rattle.reductions.specs.Reductions.{scaled_norm}
use Rattle.constraints.specs.Constraints.{Constraints, constraints, new}
use Rattle.reduced.specs.Reduced.{Reduced, reduced, none, reduced_hessian}
use Rattle.null_part.specs.NullPart.{null_part}

-- `Ok(direction)`, and `Err(CutupError::SingularCovariance)`
pub data Descent : Type 0 where
  descent : (direction : List Float) → Descent
  no_descent : Descent

-- what counts of what the code leaves
abbrev pub ray_of : (n : ℕ) → Option (List Float) → Descent
ray_of n (Some direction) = descent (take n direction)
ray_of n None = no_descent

-- ---- `if length <= 1e-12 * norm(c) || length == 0.0`
-- 1e-12
abbrev pub tolerance : Float
tolerance = of_bits binary64 0x3d71_9799_812d_ea11

unfoldable pub beyond_rounding : (n : ℕ) (direction c : List Float) → Descent
beyond_rounding n direction c =
    let length = scaled_norm n direction in
    pick (le length (fmul tolerance (scaled_norm n c))) no_descent (pick (eq length f0) no_descent (descent direction))

-- ---- the ray over Z
-- `reduced_hessian(&problem.k, &z)?`
unfoldable pub ray_along : (n d : ℕ) (c z : List Float) → Reduced → Descent
ray_along n d c z (reduced values vectors cutoff) = beyond_rounding n (null_part n d values vectors cutoff z c) c
ray_along n d c z none = no_descent

unfoldable pub ray_over : (n d : ℕ) (k c z : List Float) → Descent
ray_over n d k c z = ray_along n d c z (reduced_hessian n d k z)

-- `let z = Constraints::new(&problem.e).null`
unfoldable pub ray_in : (n : ℕ) (k c : List Float) → Constraints → Descent
ray_in n k c (constraints rank range z coefficients pivots) = ray_over n (n - rank) k c z

unfoldable pub ray_scaled : (n m : ℕ) (k c e : List Float) → Descent
ray_scaled n m k c e = ray_in n k c (new n m e)
