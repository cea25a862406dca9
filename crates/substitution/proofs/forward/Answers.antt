use Rattle.folds.specs.Kit.{arith, fold_call, kit, length-set}
use Rattle.substitution.specs.Substitution.{forward}
use Rattle.substitution.proofs.forward.Goals as goal

pub feasible_one-requires : goal.feasible_one-requires
feasible_one-requires c =
    let r = c.requires in
    (r.0, r.1, r.4 _ c.loop-i-test.true, omega arith, omega arith)

pub loop-i-preserved : goal.loop-i-preserved
loop-i-preserved c =
    let inv = c.loop-i.invariant in
    (omega arith, simp length-set inv.1, fold_call _ _ _ inv.2 (rw c.feasible_one.ensures))

pub loop-i-init : goal.loop-i-init
loop-i-init c = search kit

pub returns : goal.returns
unfolding forward
returns c = search kit
