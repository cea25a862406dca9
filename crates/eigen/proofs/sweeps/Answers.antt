use Rattle.folds.specs.Kit.{◌-◌, arith, refl}
use Rattle.eigen.proofs.Passes.{all-left, spent, broken, found, again}
use Rattle.eigen.proofs.sweeps.Goals as goal

pub loop-init : goal.loop-init
loop-init c = (omega arith, refl, refl, all-left _ _ _)

pub returns-then-is_nan : goal.returns-then-is_nan
returns-then-is_nan c =
    broken _ _ _ _ _ (omega arith) c.off_diagonal-off.ensures
    c.is_nan.ensures c.loop.invariant.3 c.if-is_nan.true

pub returns-then-sqrt-tolerance : goal.returns-then-sqrt-tolerance
returns-then-sqrt-tolerance c =
    found _ _ _ _ _ (omega arith) c.off_diagonal-off.ensures c.is_nan.ensures
    c.loop.invariant.3 c.if-is_nan.false c.sqrt.ensures c.if-sqrt-tolerance.true

pub loop-preserved : goal.loop-preserved
loop-preserved c =
    let at = c.loop.invariant in (
      omega arith,
      omega arith,
      omega arith,
      again _ _ _ _ _ (omega arith) c.off_diagonal-off.ensures
          c.is_nan.ensures at.3 c.if-is_nan.false
          c.sqrt.ensures c.if-sqrt-tolerance.false c.sweep.ensures,
    )

pub returns : goal.returns
returns c = spent _ _ _ _ (omega arith) c.loop.invariant.3
