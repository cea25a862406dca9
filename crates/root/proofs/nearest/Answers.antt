use native.Mathlib.Omega.{arith}
use Rattle.root.proofs.Settle.{half-fits}
use Rattle.root.proofs.nearest.Goals as goal

pub overflow_mul-h : goal.overflow_mul-h
overflow_mul-h c = omega (arith, half-fits c.args.q c.requires.3)
