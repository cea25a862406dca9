-- qp.rs, the answers of `solve_noisy_kkt` and `solve_kkt`, and what is done with them.
use Rattle.std.specs.Prelude.{ℕ, true, false, Bool, Option, Some, None, Result, Ok, Err, List, Float, take}
use Rattle.folds.specs.Fold.{tab, pick}
use Rattle.arith.specs.Float.{fmul, fdiv, at}
use Rattle.reductions.specs.Reductions.{all_finite}
use Rattle.scaled.specs.System.{System, system}
use Rattle.scaled.specs.Scaled.{kkt_residual, within_rounding}
use Rattle.solution.specs.declared.KktError.{KktError}
use Rattle.solution.specs.declared.KktError.TheVariants.{NoOptimum, NonFiniteCovariance, SingularCovariance}
use Rattle.solution.specs.declared.Solution.{Solution}

-- `Ok(Some((x, multipliers)))`, `Ok(None)`, and what is refused
pub data Kkt : Type 0 where
  optimum : (x multipliers : List Float) → Kkt
  no_optimum : Kkt
  non_finite : Kkt
  singular : Kkt

abbrev pub refusal : KktError → Kkt
refusal NoOptimum = no_optimum
refusal NonFiniteCovariance = non_finite
refusal SingularCovariance = singular

-- what the code answers, with x and the multipliers as lists of their own
abbrev pub answer : Result (Unit {0}) KktError → (x multipliers : List Float) → Kkt
answer (Ok _) x multipliers = optimum x multipliers
answer (Err e) x multipliers = refusal e

-- and with the solution
abbrev pub solution_of : (n m : ℕ) → Result Solution KktError → Kkt
solution_of n m (Ok s) = optimum (take n s.x) (take m s.multipliers)
solution_of n m (Err e) = refusal e

-- the system is solved to within rounding and x is finite, `match within_rounding(residual)`
unfoldable pub judge : Option Bool → (n : ℕ) (x multipliers : List Float) → Kkt
judge None n x multipliers = singular
judge (Some false) n x multipliers = no_optimum
judge (Some true) n x multipliers = pick (all_finite n x) (optimum x multipliers) singular

unfoldable pub judged : System → (x multipliers : List Float) (noise : Float) → Kkt
judged (system n m k c e b) x multipliers noise =
    judge (within_rounding (kkt_residual (system n m k c e b) x multipliers noise)) n x multipliers

-- `multipliers[j] * problem.k_scale / problem.column_scales[j]`
unfoldable pub rescaled_multipliers : (m : ℕ) (multipliers : List Float) (scale : Float) (columns : List Float) → List Float
rescaled_multipliers m multipliers scale columns = tab m (λ j. fdiv (fmul (at multipliers j) scale) (at columns j))

unfoldable pub rescaled : (m : ℕ) (scale : Float) (columns : List Float) → Kkt → Kkt
rescaled m scale columns (optimum x multipliers) = optimum x (rescaled_multipliers m multipliers scale columns)
rescaled m scale columns no_optimum = no_optimum
rescaled m scale columns non_finite = non_finite
rescaled m scale columns singular = singular
