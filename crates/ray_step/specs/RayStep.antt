-- qp.rs, in a pass of `solve_piecewise_in_units`: the step along a direction of zero curvature.
use Rattle.std.specs.Prelude.{ℕ, List, Float}
use Rattle.folds.specs.Run.{Pass, done}
use Rattle.arith.specs.Float.{f0}
use Rattle.vector.specs.Vector.{filled}
use Rattle.segments.specs.declared.Segments.{Segments}
use Rattle.slack_rows.specs.SlackRows.{with_slack_steps}
use Rattle.scaled_ray.specs.ScaledRay.{Descent, descent, no_descent}
use Rattle.iterate.specs.Problem.{first_slack_column}
use Rattle.iterate.specs.declared.SolveError.TheVariants.{SingularCovariance}
use Rattle.iterate.specs.Iterate.{Result}
use Rattle.iterate.specs.Iterate as Iterate
use Rattle.iterate.specs.declared.Iterate.{Iterate}
use Rattle.full_step.specs.FullStep.{along}

-- `let direction = slack_steps(descent_ray(&q_free, &gradient_free, &e_free)?, None)`, and the step along it; None stands as residuals of 0
unfoldable pub on_ray : (originals n m : ℕ) (e : List Float) (segments : List Segments) (solved slacks : List ℕ) → Iterate → Descent →
    Pass Iterate Result
on_ray originals n m e segments solved slacks i (descent direction) =
    along n segments (with_slack_steps e n solved slacks direction (filled m f0) originals (first_slack_column originals n m)) i
on_ray originals n m e segments solved slacks i no_descent = done (Iterate.refused SingularCovariance)
