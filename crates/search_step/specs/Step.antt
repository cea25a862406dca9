-- qp.rs, `search_multiplier`: what the search makes of one solve's answer, and the answer of the bracket that it ends in.
use Rattle.std.specs.Prelude.{◌≡◌, ℕ, List, Float, Result, Ok, Err}
use Rattle.std.specs.Float.Ieee.{lt}
use Rattle.folds.specs.Fold.{pick}
use Rattle.folds.specs.Run.{Pass, more, done}
use Rattle.arith.specs.Float.{infinity}
use Rattle.arith.specs.Double.{half_max}
use Rattle.minimum.specs.Minimized as Engine
use Rattle.minimum.specs.Capped as Capped
use Rattle.iterate.specs.declared.SolveError.{SolveError}
use Rattle.iterate.specs.declared.SolveError.TheVariants.{NonFiniteCovariance, SingularCovariance, Unbounded, NotConverged}
use Rattle.turnover.specs.Turnover.{turnover, within}
use Rattle.bracket.specs.declared.Bracket.{Bracket}
use Rattle.bracket.specs.Bracket.{bracket_of, exceed, accept, warmed, double}
use Rattle.search_step.specs.declared.Stepped.{Stepped}
use Rattle.search_step.specs.declared.Stepped.TheVariants.{More, Found}

-- how the doubling, or the cuts, end: in a bracket with its best solution, or in an error
pub data Ended : Type 0 where
  found : Bracket → Ended
  refused : SolveError → Ended

-- of what the code gives back, with n variables and w columns
unfoldable pub ended_of : (n w : ℕ) → Result Bracket SolveError → Ended
ended_of n w (Ok b) = found (bracket_of n w b)
ended_of n w (Err e) = refused e

unfoldable pub stepped_of : (n w : ℕ) → Result Stepped SolveError → Pass Bracket Ended
stepped_of n w (Ok (More b)) = more (bracket_of n w b)
stepped_of n w (Ok (Found b)) = done (found (bracket_of n w b))
stepped_of n w (Err e) = done (refused e)

-- what a function of the code does with a bracket, whatever the counts
abbrev pub Gives : Result Stepped SolveError → Bracket → (f : Bracket → Pass Bracket Ended) → Type 0
Gives s b f = (n w : ℕ) → stepped_of n w s ≡ f (bracket_of n w b)

-- ---- the doubling
-- `if high > f64::MAX / 2.0 { return Err(CutupError::NotConverged); }`, `high *= 2.0`
unfoldable pub double_on : Bracket → Pass Bracket Ended
double_on b = pick (lt half_max b.high) (done (refused NotConverged)) (more (double b))

-- what `solve` at `high` answered. Document 01: 'an error other than Unbounded becomes NotConverged'; Unbounded is `(f64::INFINITY, None)`
unfoldable pub double_by : (n : ℕ) (at : List Float) (limit : Float) → Bracket → Engine.Minimized → Pass Bracket Ended
double_by n at limit b (Engine.optimal x multipliers passes) =
    let value = turnover n x at in
    pick (within n value limit x)
    (done (found (accept b.high value x multipliers passes b)))
    (double_on (warmed x (exceed b.high value b)))
double_by n at limit b (Engine.refused Unbounded) = double_on (exceed b.high infinity b)
double_by n at limit b (Engine.refused NonFiniteCovariance) = done (refused NotConverged)
double_by n at limit b (Engine.refused SingularCovariance) = done (refused NotConverged)
double_by n at limit b (Engine.refused NotConverged) = done (refused NotConverged)

-- ---- the cuts
-- what `solve` at the middle answered: errors pass on
unfoldable pub cut_by : (n : ℕ) (at : List Float) (limit : Float) → Bracket → Engine.Minimized → Pass Bracket Ended
cut_by n at limit b (Engine.optimal x multipliers passes) =
    let value = turnover n x at in
    pick (within n value limit x) (more (accept b.middle value x multipliers passes b)) (more (exceed b.middle value b))
cut_by n at limit b (Engine.refused Unbounded) = more (exceed b.middle infinity b)
cut_by n at limit b (Engine.refused NonFiniteCovariance) = done (refused NonFiniteCovariance)
cut_by n at limit b (Engine.refused SingularCovariance) = done (refused SingularCovariance)
cut_by n at limit b (Engine.refused NotConverged) = done (refused NotConverged)

-- ---- the answer
-- the best solution is the one at `high`
unfoldable pub accepted : Ended → Capped.Capped
accepted (found b) = Capped.optimal b.best b.multipliers b.passes b.high
accepted (refused e) = Capped.refused e
