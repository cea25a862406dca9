use Rattle.folds.specs.Kit.{sym}
use Rattle.folds.specs.Fold.{all-none, all_turn, all_stop, all_end}
use Rattle.std.specs.Float.Ieee.{nan}
use Rattle.arith.specs.Methods.{finite-same}
use Rattle.reductions.specs.Reductions.{all_finite}
use Rattle.reductions.specs.Slices.{slice-turn, slice-end}
use Rattle.reductions.proofs.all_finite.Goals as goal

pub loop-x-init : goal.loop-x-init
unfolding all_finite
loop-x-init c = all-none _

pub loop-x-preserved : goal.loop-x-preserved
unfolding all_finite
loop-x-preserved c =
    let t = slice-turn nan c.args.n c.loop-x.x-index c.args.a.now c.requires c.loop-x-test.true in
    all_turn _ _ c.loop-x.invariant (rw (← finite-same, ← t.1) (sym c.if-not-is_finite.ensures.value))

pub returns-then-not-is_finite : goal.returns-then-not-is_finite
unfolding all_finite
returns-then-not-is_finite c =
    let t = slice-turn nan c.args.n c.loop-x.x-index c.args.a.now c.requires c.loop-x-test.true in
    all_stop _ _ _ t.0 (rw (← finite-same, ← t.1) (sym c.if-not-is_finite.ensures.value))

pub returns : goal.returns
unfolding all_finite
returns c =
    let t = slice-end c.args.n c.loop-x.x-index c.args.a.now c.requires c.loop-x.auto.x-index-end c.loop-x-test.false in
    all_end _ _ _ t.0 t.1 c.loop-x.invariant
