use Rattle.folds.specs.Kit.{◌<◌, arith, length, length-set, fold_call, kit}
use Rattle.matrix.specs.Matrix.{index}
use Rattle.stepping.specs.Stepping.{settle_one, settle}
use Rattle.stepping.proofs.settle.Goals as goal
use Rattle.stepping.proofs.settle.Goals.{In-loop-k}

-- the variable that is written
below : (c : In-loop-k) → index c.args.indices.now c.loop-k.k < length c.loop-k.x
below c =
    omega (arith, c.requires.0 c.loop-k.k c.loop-k-test.true, c.loop-k.invariant.0)

pub loop-k-preserved : goal.loop-k-preserved
unfolding settle settle_one
loop-k-preserved c =
    let at = c.loop-k in
    (simp length-set at.invariant.0, fold_call _ _ _ at.invariant.1 (rw (c.abs.ensures, c.clamp-next.ensures)))

pub loop-k-init : goal.loop-k-init
unfolding settle
loop-k-init c = search kit

pub returns : goal.returns
unfolding settle
returns c = search kit
