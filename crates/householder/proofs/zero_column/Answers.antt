use Rattle.folds.specs.Fold.{all-none, all_turn, all_stop, all_end}
use Rattle.std.specs.Float.Ieee.{nan, ne}
use borrow.Author.Tests.{not-true, not-false}
use Rattle.reductions.specs.Slices.{slice-turn, slice-end}
use Rattle.householder.specs.Householder.{zero_column}
use Rattle.householder.proofs.zero_column.Goals as goal

pub loop-v-init : goal.loop-v-init
unfolding zero_column
loop-v-init c = all-none _

pub loop-v-preserved : goal.loop-v-preserved
unfolding zero_column ne
loop-v-preserved c =
    let t = slice-turn nan c.args.h c.loop-v.v-index c.args.x.now c.requires c.loop-v-test.true in
    all_turn _ _ c.loop-v.invariant (rw (← t.1) (not-false _ c.if-v.false))

pub returns-then-v : goal.returns-then-v
unfolding zero_column ne
returns-then-v c =
    let t = slice-turn nan c.args.h c.loop-v.v-index c.args.x.now c.requires c.loop-v-test.true in
    all_stop _ _ _ t.0 (rw (← t.1) (not-true _ c.if-v.true))

pub returns : goal.returns
unfolding zero_column
returns c =
    let t = slice-end c.args.h c.loop-v.v-index c.args.x.now c.requires c.loop-v.auto.v-index-end c.loop-v-test.false in
    all_end _ _ _ t.0 t.1 c.loop-v.invariant
