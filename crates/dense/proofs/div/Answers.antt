use Rattle.std.proofs.Common.{◌≡◌, rules}
use Rattle.folds.specs.Fold.{over}
use Rattle.folds.specs.Tab.{taken-over}
use Rattle.vector.specs.Vector.{div}
use Rattle.vector.specs.Laws.{length-div}
use Rattle.dense.proofs.div.Goals as goal

pub returns : goal.returns
returns c =
    let x = c.args in
    let w = c.written.ensures in
    let m = w.met in
    let e : w.left.now ≡ over (div x.n x.a.now x.b.now) w.shown.now = search rules in rw (← w.leaves) (taken-over _ _ (length-div _ _ _) e)
