use Rattle.folds.specs.Kit.{rules, alls}
use Rattle.folds.specs.Fold.{all_stop, all_turn}
use borrow.Author.Tests.{not-true, not-false}
use Rattle.sizes.specs.Sizes as Sizes
use Rattle.matrix.specs.Matrix.{index}
use Rattle.variable_set.specs.Laws.{marked-marks}
use Rattle.factoring.specs.Kept.{contains_all}
use mathlib.Core.Path.{ap}
use mathlib.Core.Bool.{not}
use Rattle.factoring.proofs.contains_all.Goals as goal

ruleset kit = (alls, rules)

pub returns-then-not-listed-i : goal.returns-then-not-listed-i
unfolding contains_all
returns-then-not-listed-i c =
    let t = c.loop-i.i-index in
    let h = c.loop-i-test.true in
    all_stop _ _ _ h
    (rw (
      ← marked-marks Sizes.originals c.args.indices.now (index c.args.s.now t) (c.requires.1 t h),
      ← c.marks-listed.ensures,
    ) (not-true _ (ap not c.if-not-listed-i.true)))

pub loop-i-preserved : goal.loop-i-preserved
loop-i-preserved c =
    let t = c.loop-i.i-index in
    let h = c.loop-i-test.true in (
      search rules,
      all_turn _ _ c.loop-i.invariant.1
          (rw (
            ← marked-marks Sizes.originals c.args.indices.now (index c.args.s.now t) (c.requires.1 t h),
            ← c.marks-listed.ensures,
          ) (not-false _ (ap not c.if-not-listed-i.false))),
    )

pub marks-listed-requires : goal.marks-listed-requires
unfolding contains_all
marks-listed-requires c = c.requires.0

pub bounds-listed-i : goal.bounds-listed-i
unfolding contains_all
bounds-listed-i c = c.requires.1 c.loop-i.i-index c.loop-i-test.true

pub loop-i-init : goal.loop-i-init
unfolding contains_all
loop-i-init c = search kit

pub returns : goal.returns
unfolding contains_all
returns c = search kit
