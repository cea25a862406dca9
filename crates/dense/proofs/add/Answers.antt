use Rattle.std.proofs.Common.{◌≡◌, rules}
use Rattle.folds.specs.Fold.{over}
use Rattle.folds.specs.Tab.{taken-over}
use Rattle.vector.specs.Vector.{add}
use Rattle.vector.specs.Laws.{length-add}
use Rattle.dense.proofs.add.Goals as goal

pub returns : goal.returns
returns c =
    let x = c.args in
    let w = c.written.ensures in
    let m = w.met in
    let e : w.left.now ≡ over (add x.n x.a.now x.b.now) w.shown.now = search rules in rw (← w.leaves) (taken-over _ _ (length-add _ _ _) e)
