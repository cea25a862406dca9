-- qp.rs, `solve_piecewise_in_units`: passes, until one of them ends it or the budget is spent.
use Rattle.std.specs.Prelude.{Bool, List, ℕ, ◌+◌, Float}
use Rattle.folds.specs.Run.{Pass, more, run}
use Rattle.factoring.specs.Kept.{new}
use Rattle.segments.specs.declared.Segments.{Segments}
use Rattle.iterate.specs.Problem.{Problem, problem}
use Rattle.iterate.specs.declared.Iterate.{Iterate}
use Rattle.pass.specs.State.{State, state}
use Rattle.pass.specs.Pass.{pass}
use Rattle.iterate.specs.declared.SolveError.TheVariants.{NotConverged}
use Rattle.minimum.specs.Minimized.{Minimized, refused}
use Rattle.minimum.specs.Counted.{counted, budget}

-- a pass, as one of the run's
unfoldable pub step : Problem → (segments : List Segments) (fixed : List Bool) (q_amax linear : Float) (made : ℕ) (s : State) → Pass State Minimized
step p segments fixed q_amax linear made s = counted (made + 1) (pass p segments fixed q_amax linear s)

-- ---- the run: `for _ in 0..100 + 20 * n`
-- `Err(CutupError::NotConverged)`
abbrev pub spent : (made : ℕ) (s : State) → Minimized
spent made s = refused NotConverged

-- with no factor yet, which is to stand over the start of l
unfoldable pub passes : Problem → (segments : List Segments) (fixed : List Bool) (q_amax linear : Float) (i : Iterate) (l : List Float) → Minimized
passes (problem originals n m q c e b) segments fixed q_amax linear i l =
    run (step (problem originals n m q c e b) segments fixed q_amax linear) spent (budget n) 0 (more (state i new l))
