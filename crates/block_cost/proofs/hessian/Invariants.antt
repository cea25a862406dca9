use Rattle.folds.specs.Kit.{◌≡◌, length, fold}
use Rattle.block.specs.Block.{tempo}
use Rattle.format.specs.Structs.{block_of}
use Rattle.block_cost.specs.Cost.{add_products}
use Rattle.block_cost.proofs.hessian.Given as goal

abbrev pub invariant-loop-t : goal.invariant-loop-t
invariant-loop-t l = (length l.q ≡ length l.initial.q) × (l.q ≡ fold l.t-index (λ j' q'. add_products l.n (tempo (block_of l.fn.b) j') q') l.initial.q)
