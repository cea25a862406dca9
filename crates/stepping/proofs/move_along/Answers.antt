use Rattle.folds.specs.Kit.{◌<◌, arith, length, length-set, fold_call, kit}
use Rattle.matrix.specs.Matrix.{index}
use Rattle.stepping.specs.Stepping.{move_along}
use Rattle.stepping.proofs.move_along.Goals as goal
use Rattle.stepping.proofs.move_along.Goals.{In-loop-k}

-- the variable that is written
below : (c : In-loop-k) → index c.args.indices.now c.loop-k.k < length c.loop-k.x
below c =
    omega (arith, c.requires.0 c.loop-k.k c.loop-k-test.true, c.loop-k.invariant.0)

pub offset_bounds-x-i : goal.offset_bounds-x-i
unfolding move_along
offset_bounds-x-i c = omega (arith, below (goal.at.offset_bounds-x-i c).In-loop-k)

pub bounds-x-i : goal.bounds-x-i
unfolding move_along
bounds-x-i c = below (goal.at.bounds-x-i c).In-loop-k

pub loop-k-preserved : goal.loop-k-preserved
unfolding move_along
loop-k-preserved c =
    let at = c.loop-k in
    (simp length-set at.invariant.0, fold_call _ _ _ at.invariant.1 (rw c.clamp.ensures))

pub loop-k-init : goal.loop-k-init
unfolding move_along
loop-k-init c = search kit

pub returns : goal.returns
unfolding move_along
returns c = search kit
