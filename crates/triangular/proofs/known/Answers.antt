use Rattle.std.specs.Float.Ieee.{nan}
use Rattle.folds.specs.Fold.{fold-none, fold_call, fold_end}
use Rattle.reductions.specs.Slices.{slice-turn, slice-end}
use Rattle.triangular.specs.Triangular.{known}
use Rattle.triangular.proofs.known.Goals as goal

pub loop-j-init : goal.loop-j-init
unfolding known
loop-j-init c = fold-none _ _

pub loop-j-preserved : goal.loop-j-preserved
unfolding known
loop-j-preserved c =
    let x = c.args in
    let t = slice-turn nan x.k c.loop-j.j x.x.now c.requires.3 c.loop-j-test.true in
    fold_call _ _ _ c.loop-j.invariant (rw (c.get.ensures, t.1))

pub returns : goal.returns
unfolding known
returns c =
    let x = c.args in
    let t = slice-end x.k c.loop-j.j x.x.now c.requires.3 c.loop-j.auto.j-end c.loop-j-test.false in
    fold_end _ _ _ _ t.0 t.1 c.loop-j.invariant
