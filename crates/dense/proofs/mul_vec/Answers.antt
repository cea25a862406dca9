use Rattle.std.proofs.Common.{◌≡◌, rules}
use Rattle.folds.specs.Fold.{over}
use Rattle.folds.specs.Tab.{taken-over}
use Rattle.matrix.specs.Matrix.{mul_vec}
use Rattle.matrix.specs.Laws.{length-mul_vec}
use Rattle.dense.proofs.mul_vec.Goals as goal

pub returns : goal.returns
returns c =
    let x = c.args in
    let w = c.written.ensures in
    let m = w.met in
    let e : w.left.now ≡ over (mul_vec x.n x.m x.a.now x.x.now) w.shown.now = search rules in rw (← w.leaves) (taken-over _ _ (length-mul_vec _ _ _ _) e)
