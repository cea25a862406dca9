-- qp.rs, `solve_noisy_kkt`: the solve of a system that is scaled. K is n by n, E is n by m; c and x have n elements, b and the multipliers m.
use Rattle.std.specs.Prelude.{Option, Some, None, ℕ, ◌-◌, List, take, Float}
use Rattle.constraints.specs.Constraints.{Constraints, constraints, new, smallest_feasible, multipliers}
use Rattle.scaled.specs.System.{System, system}
use Rattle.reduced.specs.Reduced.{Reduced, reduced, none, gradient, reduced_gradient, reduced_hessian, range_part, moved}
use Rattle.solution.specs.Solution.{Kkt, singular, judged}

-- ---- the least over x0 + Zv, where the eigenvalues of ZᵀKZ are found
pub data Least : Type 0 where
  least : (x : List Float) → Least
  unknown : Least

-- `x0 + z * v`
unfoldable pub stepped : (n d : ℕ) (k c z x0 : List Float) → Reduced → Least
stepped n d k c z x0 (reduced values vectors cutoff) =
    least (moved n d x0 z (range_part d values vectors cutoff (reduced_gradient n d k c z x0)))
stepped n d k c z x0 none = unknown

unfoldable pub minimum : (n d : ℕ) (k c z x0 : List Float) → Least
minimum n d k c z x0 = stepped n d k c z x0 (reduced_hessian n d k z)

abbrev pub point_of : (n : ℕ) → Option (List Float) → Least
point_of n (Some x) = least (take n x)
point_of n None = unknown

-- ---- the solve
-- the multipliers at x, and the check of both; `reduced_hessian(k, z)?`
unfoldable pub checked_at : System → (noise : Float) → Constraints → Least → Kkt
checked_at (system n m k c e b) noise (constraints rank range null coefficients pivots) (least x) =
    judged (system n m k c e b) x (multipliers n m range coefficients (gradient n k c x) pivots rank) noise
checked_at (system n m k c e b) noise (constraints rank range null coefficients pivots) unknown = singular

unfoldable pub solve_over : System → (noise : Float) → Constraints → Kkt
solve_over (system n m k c e b) noise (constraints rank range null coefficients pivots) =
    checked_at (system n m k c e b) noise (constraints rank range null coefficients pivots)
    (minimum n (n - rank) k c null (smallest_feasible n m range coefficients b pivots rank))

unfoldable pub solve_scaled : System → (noise : Float) → Kkt
solve_scaled (system n m k c e b) noise = solve_over (system n m k c e b) noise (new n m e)
