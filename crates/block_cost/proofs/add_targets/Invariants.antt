use Rattle.folds.specs.Kit.{◌≡◌, length, fold}
use Rattle.arith.specs.Float.{fmul}
use Rattle.nearest.specs.Value.{fromℤ}
use Rattle.block.specs.Block.{item}
use Rattle.format.specs.Structs.{list_of}
use Rattle.block_cost.specs.Cost.{plus_at}
use Rattle.block_cost.proofs.add_targets.Given as goal

abbrev pub invariant-loop-p : goal.invariant-loop-p
invariant-loop-p l = (length l.c ≡ length l.initial.c)
    × (l.c ≡ fold l.p-index (λ k' c'. plus_at c' (item (list_of l.fn.t.list) k').word (fmul l.w (fromℤ (item (list_of l.fn.t.list) k').coef))) l.initial.c)
