use Rattle.folds.specs.Kit.{◌≡◌, length, fold}
use Rattle.arith.specs.Float.{fmul}
use Rattle.nearest.specs.Value.{fromℤ}
use Rattle.block.specs.Block.{item}
use Rattle.format.specs.Structs.{list_of}
use Rattle.block_cost.specs.Cost.{add_row}
use Rattle.block_cost.proofs.add_products.Given as goal

abbrev pub invariant-loop-p : goal.invariant-loop-p
invariant-loop-p l = (length l.q ≡ length l.initial.q)
    × (l.q ≡ fold l.p-index (λ k' q'. add_row l.n (list_of l.fn.t.list) (item (list_of l.fn.t.list) k').word (fmul l.weight (fromℤ (item (list_of l.fn.t.list) k').coef)) q') l.initial.q)
