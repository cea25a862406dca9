use Rattle.std.specs.Prelude.{Float}
use Rattle.std.proofs.Common.{length-take}
use Rattle.std.proofs.Math.ListN.{length-replicate}
use Rattle.folds.specs.Kit.{◌≡◌, ◌∙◌, arith, length, rules}
use Rattle.folds.specs.Tab.{taken-over}
use Rattle.sizes.specs.Sizes as Sizes
use Rattle.arith.specs.Float.{f0}
use Rattle.vector.specs.Laws.{take-filled}
use Rattle.slack_rows.specs.Laws.{length-with_slack_steps}
use Rattle.iterate.specs.Laws.{passed-failed}
use Rattle.full_step.specs.Laws.{split-few}
use Rattle.ray_step.specs.RayStep.{on_ray}
use Rattle.ray_step.proofs.on_ray.Goals as goal
use Rattle.ray_step.proofs.on_ray.Goals.{In-Some}

direction-length : (c : In-Some) → length c.in-Some.direction ≡ Sizes.variables
direction-length c = search rules

pub slice_bounds-direction-end : goal.slice_bounds-direction-end
slice_bounds-direction-end c =
    let s = c.requires.2 in omega (arith, direction-length (goal.at.slice_bounds-direction-end c).In-Some, split-few s, s.counted)

pub slack_steps-requires : goal.slack_steps-requires
slack_steps-requires c =
    let s = c.requires.2 in
    let d = direction-length (goal.at.slack_steps-requires c).In-Some in (
      s.within,
      s.slacks_fit,
      s.solved_are,
      s.slacks_are,
      omega (arith, length-take {A = Float}, split-few s, s.counted),
      omega (arith, length-take {A = Float}, length-replicate {A = Float}, s.columns),
      omega (arith, split-few s, s.counted),
    )

pub slice_bounds-step-end : goal.slice_bounds-step-end
slice_bounds-step-end c = omega (arith, split-few c.requires.2)

pub along-requires : goal.along-requires
along-requires c =
    let p = c.requires in
    (p.2.slacks_are.few, p.0, p.1.placed, p.2.free, omega (arith, length-take {A = Float}, split-few p.2), p.3)

-- the slacks move with residuals of 0
pub returns : goal.returns
unfolding on_ray
returns c =
    let p = c.requires in
    let a = c.args in
    let steps = taken-over _ _ (length-with_slack_steps _ _ _ _ _ _ _ _ ∙ p.2.counted) c.slack_steps.ensures in record {
      result_value = rw (c.in-Some.is, ← take-filled a.counts.m Sizes.columns f0 p.2.columns, ← steps) (c.along.ensures.gives a.counts.m);
      consistent = c.along.ensures.consistent;
    }

pub returns-in_default : goal.returns-in_default
unfolding on_ray
returns-in_default c =
    let e = c.ended.ensures in record {
      result_value = passed-failed _ _ c.ended.result e.0 ∙ rw c.in_default.is;
      consistent = rw e.1 c.requires.1;
    }

pub slice_bounds-slack_steps-end : goal.slice_bounds-slack_steps-end
slice_bounds-slack_steps-end c =
    let s = c.requires.2 in
    omega (arith, direction-length (goal.at.slice_bounds-slack_steps-end c).In-Some, split-few s, s.counted, length-take {A = Float})

pub slice_bounds-along-end : goal.slice_bounds-along-end
slice_bounds-along-end c = omega (arith, split-few c.requires.2, length-take {A = Float})
