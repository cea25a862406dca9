use Rattle.folds.specs.Kit.{arith}
use Rattle.eigen.proofs.Whole.{found, lost}
use Rattle.eigen.proofs.jacobi.Goals as goal

pub returns-then-sweeps : goal.returns-then-sweeps
returns-then-sweeps c =
    found _ _ _ c.start.ensures.0 c.start.ensures.1 (omega arith) c.norm-tolerance.ensures c.sweeps.ensures _
    c.if-sweeps.true c.requires.2 c.eigenvalues.ensures

pub returns : goal.returns
returns c = lost _ _ _ c.start.ensures.0 c.start.ensures.1 (omega arith) c.norm-tolerance.ensures c.sweeps.ensures _ _ c.if-sweeps.false
