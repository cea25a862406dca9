-- Laws of the definitions: the direction has n elements, and what a function's calls leave, put together.
use Rattle.std.specs.Prelude.{◌≡◌, refl, List, ℕ, ◌-◌, length, Float}
use Rattle.folds.specs.Fold.{pick_keep}
use Rattle.constraints.specs.Constraints.{Constraints, constraints, new}
use Rattle.reduced.specs.Reduced.{Reduced, reduced, none, reduced_hessian}
use Rattle.null_part.specs.NullPart.{null_part}
use Rattle.null_part.specs.Laws.{length-null_part}
use Rattle.scaled_ray.specs.ScaledRay.{Descent, descent, no_descent, beyond_rounding, ray_along, ray_over, ray_in, ray_scaled}

-- ---- lengths
-- a direction of n elements, if there is one
abbrev pub Fills : (n : ℕ) → Descent → Type 0
Fills n (descent direction) = length direction ≡ n
Fills n no_descent = n ≡ n

beyond_fills : (n : ℕ) (direction c : List Float) → length direction ≡ n → Fills n (beyond_rounding n direction c)
unfolding beyond_rounding
beyond_fills n direction c e = pick_keep (Fills n) _ refl (pick_keep (Fills n) _ refl e)

along_fills : (n d : ℕ) (c z : List Float) (h : Reduced) → Fills n (ray_along n d c z h)
unfolding ray_along
along_fills n d c z (reduced values vectors cutoff) = beyond_fills n _ c (length-null_part n d values vectors cutoff z c)
along_fills n d c z none = refl

in_fills : (n : ℕ) (k c : List Float) (o : Constraints) → Fills n (ray_in n k c o)
unfolding ray_in ray_over
in_fills n k c (constraints rank range z coefficients pivots) = along_fills n _ c z _

pub scaled_fills : (n m : ℕ) (k c e : List Float) → Fills n (ray_scaled n m k c e)
unfolding ray_scaled
scaled_fills n m k c e = in_fills n k c (new n m e)

-- ---- what the calls leave
module _ (n d : ℕ) (k c z : List Float) where
  pub over-found : {direction values vectors : List Float} {cutoff : Float} → reduced values vectors cutoff ≡ reduced_hessian n d k z →
      direction ≡ null_part n d values vectors cutoff z c → beyond_rounding n direction c ≡ ray_over n d k c z
  unfolding ray_over ray_along
  over-found g e = rw (← g, e)

  pub over-none : none ≡ reduced_hessian n d k z → no_descent ≡ ray_over n d k c z
  unfolding ray_over ray_along
  over-none g = rw (← g)

pub scaled-from : {rank : ℕ} {range z coefficients : List Float} {pivots : List ℕ} (n m : ℕ) (k c e : List Float) →
    constraints rank range z coefficients pivots ≡ new n m e → ray_over n (n - rank) k c z ≡ ray_scaled n m k c e
unfolding ray_scaled ray_in
scaled-from n m k c e g = rw (← g)
