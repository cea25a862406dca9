use Rattle.folds.specs.Kit.{sym}
use Rattle.folds.specs.Fold.{some-none, some_turn, some_stop, some_end}
use Rattle.std.specs.Float.Ieee.{nan}
use Rattle.reductions.specs.Reductions.{any_nan}
use Rattle.reductions.specs.Slices.{slice-turn, slice-end}
use Rattle.reductions.proofs.any_nan.Goals as goal

pub loop-x-init : goal.loop-x-init
unfolding any_nan
loop-x-init c = some-none _

pub loop-x-preserved : goal.loop-x-preserved
unfolding any_nan
loop-x-preserved c =
    let t = slice-turn nan c.args.n c.loop-x.x-index c.args.a.now c.requires c.loop-x-test.true in
    some_turn _ _ c.loop-x.invariant (rw (← t.1) (sym c.if-is_nan.ensures.value))

pub returns-then-is_nan : goal.returns-then-is_nan
unfolding any_nan
returns-then-is_nan c =
    let t = slice-turn nan c.args.n c.loop-x.x-index c.args.a.now c.requires c.loop-x-test.true in
    some_stop _ _ _ t.0 (rw (← t.1) (sym c.if-is_nan.ensures.value))

pub returns : goal.returns
unfolding any_nan
returns c =
    let t = slice-end c.args.n c.loop-x.x-index c.args.a.now c.requires c.loop-x.auto.x-index-end c.loop-x-test.false in
    some_end _ _ _ t.0 t.1 c.loop-x.invariant
