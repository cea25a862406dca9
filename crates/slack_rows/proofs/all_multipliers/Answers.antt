use Rattle.folds.specs.Kit.{◌∙◌, arith, kit}
use Rattle.folds.specs.Fold.{fold-none}
use native.Mathlib.Nat.{le_refl}
use Rattle.sizes.specs.Sizes as Sizes
use Rattle.vector.specs.Laws.{take_zeros}
use Rattle.slack_rows.specs.SlackRows.{all_multipliers}
use Rattle.slack_rows.proofs.all_multipliers.Goals as goal

pub loop-k-init : goal.loop-k-init
unfolding all_multipliers
loop-k-init c = (omega arith, take_zeros _ _ (le_refl Sizes.columns) ∙ fold-none _ _)

pub offset_bounds-all-j : goal.offset_bounds-all-j
unfolding all_multipliers
offset_bounds-all-j c = omega (arith, c.requires.1 c.loop-k.k c.loop-k-test.true)

pub bounds-all-j : goal.bounds-all-j
unfolding all_multipliers
bounds-all-j c = omega (arith, c.requires.1 c.loop-k.k c.loop-k-test.true)

pub loop-k-preserved : goal.loop-k-preserved
unfolding all_multipliers
loop-k-preserved c = search kit

pub returns : goal.returns
unfolding all_multipliers
returns c = search kit
