use Rattle.folds.specs.Kit.{◌≡◌, length, fold}
use Rattle.block.specs.Block.{tempo}
use Rattle.format.specs.Structs.{block_of}
use Rattle.block_cost.specs.Cost.{add_targets}
use Rattle.block_cost.proofs.linear.Given as goal

abbrev pub invariant-loop-t : goal.invariant-loop-t
invariant-loop-t l = (length l.c ≡ length l.initial.c) × (l.c ≡ fold l.t-index (λ j' c'. add_targets (tempo (block_of l.fn.b) j') c') l.initial.c)
