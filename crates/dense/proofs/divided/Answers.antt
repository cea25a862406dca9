use Rattle.std.proofs.Common.{◌≡◌, rules}
use Rattle.folds.specs.Fold.{over}
use Rattle.folds.specs.Tab.{taken-over}
use Rattle.vector.specs.Vector.{divided}
use Rattle.vector.specs.Laws.{length-divided}
use Rattle.dense.proofs.divided.Goals as goal

pub returns : goal.returns
returns c =
    let x = c.args in
    let w = c.written.ensures in
    let m = w.met in
    let e : w.left.now ≡ over (divided x.n x.a.now x.by) w.shown.now = search rules in rw (← w.leaves) (taken-over _ _ (length-divided _ _ _) e)
