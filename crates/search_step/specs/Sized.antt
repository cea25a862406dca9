-- Where a step finds a bracket, its best solution has the sizes of the solves' answers; and none ends in Unbounded.
use Rattle.std.specs.Prelude.{◌≡◌, List, ℕ, ◌≤◌, length, Float}
use Rattle.folds.specs.Fold.{pick_keep}
use Rattle.folds.specs.Run.{Kept}
use Rattle.arith.specs.Float.{infinity}
use Rattle.iterate.specs.declared.SolveError.TheVariants.{NonFiniteCovariance, SingularCovariance, Unbounded, NotConverged}
use Rattle.minimum.specs.Minimized as Engine
use Rattle.minimum.specs.Capped as Capped
use Rattle.minimum.specs.Laws.{Filled, Within}
use Rattle.bracket.specs.declared.Bracket.{Bracket}
use Rattle.bracket.specs.Bracket.{accept}
use Rattle.bracket.specs.Sized.{Sized, accept-sized, exceed-sized}
use Rattle.search_step.specs.Step.{Ended, found, refused, double_on, double_by, cut_by, accepted}

abbrev Any : Bracket → Type 0
Any b = Unit {0}

module _ (n w budget : ℕ) where
  -- of a solve, of how a loop ended, and of the answer
  abbrev pub Answers : Engine.Minimized → Type 0
  Answers a = Filled n w a × Within budget a

  abbrev pub Fits : Ended → Type 0
  Fits (found b) = Sized n w budget b
  Fits (refused NonFiniteCovariance) = Unit {0}
  Fits (refused SingularCovariance) = Unit {0}
  Fits (refused Unbounded) = ⊥
  Fits (refused NotConverged) = Unit {0}

  abbrev pub Accepted : Capped.Capped → Type 0
  Accepted (Capped.optimal x multipliers passes raise) = (length x ≡ n) × (length multipliers ≡ w) × (1 ≤ passes) × (passes ≤ budget)
  Accepted (Capped.refused NonFiniteCovariance) = Unit {0}
  Accepted (Capped.refused SingularCovariance) = Unit {0}
  Accepted (Capped.refused Unbounded) = ⊥
  Accepted (Capped.refused NotConverged) = Unit {0}

  pub accepted-fits : (o : Ended) → Fits o → Accepted (accepted o)
  unfolding accepted
  accepted-fits (found b) z = (z.best_long, z.multipliers_long, z.some, z.few)
  accepted-fits (refused NonFiniteCovariance) z = tt
  accepted-fits (refused SingularCovariance) z = tt
  accepted-fits (refused Unbounded) z = z
  accepted-fits (refused NotConverged) z = tt

  accept-fits : (u : Bracket) (at value : Float) (x multipliers : List Float) (passes : ℕ) → Answers (Engine.optimal x multipliers passes) →
      Sized n w budget (accept at value x multipliers passes u)
  accept-fits u at value x multipliers passes k =
      accept-sized n w budget u at value x multipliers passes k.0.0 k.0.1 k.1.0 k.1.1

  -- ---- the doubling
  on-fits : (u : Bracket) → Kept Any Fits (double_on u)
  unfolding double_on Kept
  on-fits u = pick_keep (Kept Any Fits) _ tt tt

  module _ (at : List Float) (limit : Float) (t : Bracket) where
    pub double-fits : (s : Engine.Minimized) → Answers s → Kept Any Fits (double_by n at limit t s)
    unfolding double_by Kept
    double-fits (Engine.optimal x multipliers passes) k =
        pick_keep (Kept Any Fits) _ (accept-fits t t.high _ x multipliers passes k) (on-fits _)
    double-fits (Engine.refused Unbounded) k = on-fits _
    double-fits (Engine.refused NonFiniteCovariance) k = tt
    double-fits (Engine.refused SingularCovariance) k = tt
    double-fits (Engine.refused NotConverged) k = tt

    -- ---- the cuts
    pub cut-fits : (s : Engine.Minimized) → Sized n w budget t → Answers s → Kept (Sized n w budget) Fits (cut_by n at limit t s)
    unfolding cut_by Kept
    cut-fits (Engine.optimal x multipliers passes) z k =
        pick_keep (Kept (Sized n w budget) Fits) _
        (accept-fits t t.middle _ x multipliers passes k)
        (exceed-sized n w budget t z t.middle _)
    cut-fits (Engine.refused Unbounded) z k = exceed-sized n w budget t z t.middle infinity
    cut-fits (Engine.refused NonFiniteCovariance) z k = tt
    cut-fits (Engine.refused SingularCovariance) z k = tt
    cut-fits (Engine.refused NotConverged) z k = tt
