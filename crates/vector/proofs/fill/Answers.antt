use Rattle.std.proofs.Common.{◌≡◌, length, take, arith, length-take-le}
use Rattle.folds.specs.Fold.{over}
use Rattle.vector.specs.Laws.{length-filled, replicate-filled}
use Rattle.vector.proofs.fill.Goals as goal

pub returns : goal.returns
unfolding over
returns c =
    let x = c.args in
    let e : length (take x.n x.y.now) ≡ x.n = length-take-le x.n x.y.now (omega arith) in
    rw (length-filled, c.fill.ensures.after (λ y e. e), e, replicate-filled)
