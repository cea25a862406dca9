use Rattle.folds.specs.Kit.{◌≡◌, ◌*◌, length}
use lib.ListN.{take}
use Rattle.block.specs.Block.{anchor}
use Rattle.format.specs.Structs.{block_of}
use Rattle.block_rows.specs.Rows.{columns}
use Rattle.block_rows.proofs.anchor_columns.Given as goal

abbrev pub invariant-loop-k : goal.invariant-loop-k
invariant-loop-k l = (length l.e ≡ length l.initial.e) × (take (l.k * l.fn.b.words) l.e ≡ columns l.fn.b.words l.k (λ k'. (anchor (block_of l.fn.b) k').list))
