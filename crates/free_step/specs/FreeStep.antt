-- qp.rs, what follows the solve of a pass of `solve_piecewise_in_units`: the step to the minimum on the free variables, or, where they have none,
-- along a direction of zero curvature. The free variables are `solved` and, after them, `slacks`.
use Rattle.std.specs.Prelude.{ℕ, Bool, List, length, Float}
use Rattle.std.specs.Float.Ieee.{eq}
use Rattle.folds.specs.Fold.{all, pick}
use Rattle.folds.specs.Run.{Pass, done}
use Rattle.arith.specs.Float.{f0, at}
use Rattle.solution.specs.Solution.{Kkt, optimum, no_optimum, non_finite, singular}
use Rattle.segments.specs.declared.Segments.{Segments}
use Rattle.slack_rows.specs.SlackRows.{all_multipliers, with_slack_steps}
use Rattle.ray.specs.Ray.{descent_ray}
use Rattle.iterate.specs.Problem.{first_slack_column}
use Rattle.iterate.specs.declared.SolveError.TheVariants.{NonFiniteCovariance, SingularCovariance}
use Rattle.iterate.specs.Iterate.{Result}
use Rattle.iterate.specs.Iterate as Iterate
use Rattle.iterate.specs.declared.Iterate.{Iterate}
use Rattle.free_problem.specs.FreeProblem.{Gathered}
use Rattle.full_step.specs.FullStep.{toward}
use Rattle.ray_step.specs.RayStep.{on_ray}

-- ---- the minimum
-- `solution.map(|(delta, multipliers)| { ..; (slack_steps(delta, Some(&residuals)), all) })`, and the step to `&x_free + delta`
unfoldable pub to_minimum : (originals n m : ℕ) (q c e : List Float) (segments : List Segments) (fixed : List Bool) (q_amax linear : Float)
    (solved slacks kept : List ℕ) (residuals delta multipliers : List Float) → Iterate → Pass Iterate Result
to_minimum originals n m q c e segments fixed q_amax linear solved slacks kept residuals delta multipliers i =
    toward originals n m q c e segments fixed q_amax linear (length solved)
    (with_slack_steps e n solved slacks delta residuals originals (first_slack_column originals n m)) (all_multipliers m kept multipliers) i

-- ---- no minimum: `let Some((delta, multipliers)) = solution else { .. }`
-- `c_free.iter().all(|&v| v == 0.0)`
unfoldable pub all_zero : (n : ℕ) (a : List Float) → Bool
all_zero n a = all n (λ i. eq (at a i) f0)

-- `if c_free.iter().all(..) { return Err(CutupError::SingularCovariance); }`
unfoldable pub descend : (originals n m : ℕ) (e : List Float) (segments : List Segments) (solved slacks : List ℕ) → Gathered → Iterate →
    Pass Iterate Result
descend originals n m e segments solved slacks g i =
    let k = length solved in
    pick (all_zero k g.c) (done (Iterate.refused SingularCovariance))
    (on_ray originals n m e segments solved slacks i (descent_ray k (length g.kept) g.q_free g.gradient g.e_free))

-- ---- by what the solve gave
-- `if let Some((delta, multipliers)) = solution`, else the direction of zero curvature; `?` gives back what is refused
unfoldable pub step : (originals n m : ℕ) (q c e : List Float) (segments : List Segments) (fixed : List Bool) (q_amax linear : Float)
    (solved slacks : List ℕ) → Gathered → Iterate → Kkt → Pass Iterate Result
step originals n m q c e segments fixed q_amax linear solved slacks g i (optimum delta multipliers) =
    to_minimum originals n m q c e segments fixed q_amax linear solved slacks g.kept g.residuals delta multipliers i
step originals n m q c e segments fixed q_amax linear solved slacks g i no_optimum = descend originals n m e segments solved slacks g i
step originals n m q c e segments fixed q_amax linear solved slacks g i non_finite = done (Iterate.refused NonFiniteCovariance)
step originals n m q c e segments fixed q_amax linear solved slacks g i singular = done (Iterate.refused SingularCovariance)
