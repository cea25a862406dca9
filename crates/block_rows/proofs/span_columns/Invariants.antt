use Rattle.folds.specs.Kit.{◌≡◌, ◌*◌, length}
use lib.ListN.{take}
use Rattle.block.specs.Block.{span}
use Rattle.format.specs.Structs.{block_of}
use Rattle.block_rows.specs.Rows.{columns}
use Rattle.block_rows.proofs.span_columns.Given as goal

abbrev pub invariant-loop-k : goal.invariant-loop-k
invariant-loop-k l = (length l.a ≡ length l.initial.a) × (take (l.k * l.fn.b.words) l.a ≡ columns l.fn.b.words l.k (λ k'. (span (block_of l.fn.b) k').list))
