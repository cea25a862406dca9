use Rattle.folds.specs.Kit.{◌-◌, ◌<◌, arith, fold_call, kit, length-set}
use Rattle.matrix.specs.Matrix.{index}
use Rattle.substitution.specs.Substitution.{backward_one, backward}
use Rattle.substitution.proofs.backward.Goals as goal

pub multiplier_one-requires : goal.multiplier_one-requires
multiplier_one-requires c =
    let r = c.requires in (r.0, r.2, r.3, r.4, omega arith, omega arith)

pub loop-t-preserved : goal.loop-t-preserved
unfolding backward_one
loop-t-preserved c =
    let inv = c.loop-t.invariant in
    (omega arith, simp length-set inv.1, fold_call _ _ _ inv.2 (rw c.multiplier_one.ensures))

pub offset_bounds-lambda-j : goal.offset_bounds-lambda-j
offset_bounds-lambda-j c =
    let a = c.args in
    let h : index a.pivots.now (a.rank - 1 - c.loop-t.t) < a.m = c.requires.4 _ (omega arith) in
    omega arith

pub bounds-lambda-j : goal.bounds-lambda-j
bounds-lambda-j c =
    let a = c.args in
    let h : index a.pivots.now (a.rank - 1 - c.loop-t.t) < a.m = c.requires.4 _ (omega arith) in
    omega arith

pub loop-t-init : goal.loop-t-init
loop-t-init c = search kit

pub returns : goal.returns
unfolding backward
returns c = search kit
