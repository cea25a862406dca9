use Rattle.folds.specs.Kit.{◌≡◌, ◌+◌, ◌*◌, length, fold}
use Rattle.arith.specs.Float.{fmul}
use Rattle.nearest.specs.Value.{fromℤ}
use Rattle.block.specs.Block.{item}
use Rattle.format.specs.Structs.{list_of}
use Rattle.block_cost.specs.Cost.{plus_at}
use Rattle.block_cost.proofs.add_row.Given as goal

abbrev pub invariant-loop-p : goal.invariant-loop-p
invariant-loop-p l = (length l.q ≡ length l.initial.q)
    × (l.q ≡ fold l.p-index (λ k' q'. plus_at q' (l.i + (item (list_of l.fn.l) k').word * l.n) (fmul l.w (fromℤ (item (list_of l.fn.l) k').coef))) l.initial.q)
