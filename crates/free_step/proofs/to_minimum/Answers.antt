use Rattle.std.specs.Prelude.{Float}
use Rattle.std.proofs.Common.{length-take}
use Rattle.std.proofs.Math.ListN.{take}
use Rattle.folds.specs.Kit.{◌≡◌, sym, ◌∙◌, arith, length, rules}
use Rattle.folds.specs.Tab.{taken-over}
use native.Mathlib.Nat.{lt_of_lt_of_le}
use lib.Seq.{length-take-le}
use Rattle.sizes.specs.Sizes as Sizes
use Rattle.slack_rows.specs.Laws.{length-with_slack_steps, all_multipliers-taken}
use Rattle.full_step.specs.Laws.{split-few}
use Rattle.free_step.specs.FreeStep.{to_minimum}
use Rattle.free_step.proofs.to_minimum.Goals as goal
use Rattle.free_step.proofs.to_minimum.Goals.{Start}

lists : (c : Start) → (length c.args.free.kept ≡ Sizes.columns) × (length c.args.free.residuals ≡ Sizes.columns)
lists c = (search rules, search rules)

pub slice_bounds-kept-end : goal.slice_bounds-kept-end
slice_bounds-kept-end c = omega (arith, (lists (goal.at.slice_bounds-kept-end c).Start).0, c.requires.5.kept_few, c.requires.5.columns)

kept-is : (c : Start) → c.args.free.columns ≡ length (take c.args.free.columns c.args.free.kept)
kept-is c = let e = (lists c).0 in sym (length-take-le _ _ (omega (arith, c.requires.5.kept_few, c.requires.5.columns)))

pub slice_bounds-all_multipliers-end : goal.slice_bounds-all_multipliers-end
slice_bounds-all_multipliers-end c = kept-is (goal.at.slice_bounds-all_multipliers-end c).Start

pub all_multipliers-all-requires : goal.all_multipliers-all-requires
all_multipliers-all-requires c =
    let p = c.requires in
    let kept = kept-is (goal.at.all_multipliers-all-requires c).Start in
    (omega (arith, kept, p.7), λ i h. lt_of_lt_of_le (p.5.kept_below i (rw kept h)) p.5.columns)

pub slice_bounds-residuals-end : goal.slice_bounds-residuals-end
slice_bounds-residuals-end c = omega (arith, (lists (goal.at.slice_bounds-residuals-end c).Start).1, c.requires.5.columns)

pub slack_steps-requires : goal.slack_steps-requires
slack_steps-requires c =
    let p = c.requires in
    let s = p.4 in
    let e = (lists (goal.at.slack_steps-requires c).Start).1 in (
      s.within,
      s.slacks_fit,
      s.solved_are,
      s.slacks_are,
      omega (arith, p.6),
      omega (arith, p.5.columns, length-take {A = Float}),
      omega (arith, split-few s, s.counted),
    )

pub slice_bounds-step-end : goal.slice_bounds-step-end
slice_bounds-step-end c = omega (arith, split-few c.requires.4)

pub toward-requires : goal.toward-requires
toward-requires c =
    let p = c.requires in
    (p.0, p.1, p.2, p.3, p.4.free, omega (arith, p.4.counted), omega (arith, split-few p.4, length-take {A = Float}), p.8)

pub returns : goal.returns
unfolding to_minimum
returns c =
    let p = c.requires in
    let l = p.5 in
    let all =
    all_multipliers-taken _ _ _ _ l.columns (rw (← kept-is (goal.at.returns c).Start) l.kept_below) c.all_multipliers-all.ensures in record {
      result_value = rw (← all, ← taken-over _ _ (length-with_slack_steps _ _ _ _ _ _ _ _ ∙ p.4.counted) c.slack_steps.ensures) c.toward.ensures.result_value;
      consistent = c.toward.ensures.consistent;
    }

pub slice_bounds-toward-end : goal.slice_bounds-toward-end
slice_bounds-toward-end c = omega (arith, split-few c.requires.4, length-take {A = Float})
