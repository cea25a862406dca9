use Rattle.std.specs.Prelude.{◌≡◌, ◌+◌, ◌-◌}
use Rattle.std.proofs.Common.{arith}
use Rattle.folds.specs.Fold.{fold-none, fold_call}
use Rattle.leaving.specs.Held.{leaving}
use Rattle.leaving.proofs.leaving.Goals as goal

pub leave_one-next-requires : goal.leave_one-next-requires
leave_one-next-requires c =
    let p = c.requires in
    (record { few = p.few; l_holds = omega (arith, p.l_holds); room_holds = omega (arith, p.room_holds) }, omega arith)

pub loop-i-init : goal.loop-i-init
loop-i-init c = let n = c.args.originals in let z : n - n ≡ 0 = omega arith in rw z (fold-none _ _)

pub loop-i-preserved : goal.loop-i-preserved
loop-i-preserved c =
    let n = c.args.originals in
    let i = c.loop-i.i in
    let z : n - (i - 1) ≡ n - i + 1 = omega arith in
    let y : n - 1 - (n - i) ≡ i - 1 = omega arith in
    rw z (fold_call _ _ _ c.loop-i.invariant (rw y c.leave_one-next.ensures))

pub returns : goal.returns
unfolding leaving
returns c = let n = c.args.originals in let z : n - c.loop-i.i ≡ n = omega arith in rw z at c.loop-i.invariant
