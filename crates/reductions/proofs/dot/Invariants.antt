use Rattle.folds.specs.Kit.{◌≡◌, length}
use Rattle.reductions.specs.Reductions.{dot}
use Rattle.reductions.proofs.dot.Given as goal

abbrev pub invariant-loop-x : goal.invariant-loop-x
invariant-loop-x l = l.sum ≡ dot (length l.yielded) l.a l.b
