use Rattle.folds.specs.Kit.{fold_end, kit}
use Rattle.sizes.specs.Sizes as Sizes
use Rattle.variable_set.specs.Laws.{marks_made}
use Rattle.variable_set.proofs.marks.Goals as goal

pub bounds-s-i : goal.bounds-s-i
bounds-s-i c = c.requires c.loop-i.i-index c.loop-i-test.true

pub returns : goal.returns
returns c =
    marks_made Sizes.originals c.args.list.now c.requires
    (fold_end _ _ _ _ c.loop-i.invariant.0 c.loop-i-test.false c.loop-i.invariant.1)

pub loop-i-init : goal.loop-i-init
loop-i-init c = search kit

pub loop-i-preserved : goal.loop-i-preserved
loop-i-preserved c = search kit
