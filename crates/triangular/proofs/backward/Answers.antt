use Rattle.std.specs.Prelude.{◌≡◌, ◌+◌, ◌-◌}
use Rattle.std.proofs.Common.{arith}
use Rattle.folds.specs.Fold.{fold-none, fold_call}
use Rattle.triangular.specs.Triangular.{backward}
use Rattle.triangular.proofs.backward.Goals as goal

pub loop-i-init : goal.loop-i-init
loop-i-init c = let z : c.args.n - c.args.n ≡ 0 = omega arith in rw z (fold-none _ _)

pub loop-i-preserved : goal.loop-i-preserved
loop-i-preserved c =
    let n = c.args.n in
    let i = c.loop-i.i in
    let z : n - (i - 1) ≡ n - i + 1 = omega arith in
    let y : n - 1 - (n - i) ≡ i - 1 = omega arith in
    rw z (fold_call _ _ _ c.loop-i.invariant (rw y c.unknown_back.ensures))

pub returns : goal.returns
unfolding backward
returns c = let z : c.args.n - c.loop-i.i ≡ c.args.n = omega arith in rw z at c.loop-i.invariant
