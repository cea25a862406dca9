use Rattle.folds.specs.Kit.{◌≡◌, true, length, all}
use Rattle.block.specs.Block.{word}
use Rattle.block.specs.Plan.{time}
use Rattle.block.specs.Keeps.{window_kept}
use Rattle.format.specs.Structs.{block_of}
use Rattle.bounds.proofs.windows_kept.Given as goal

abbrev pub invariant-loop-w : goal.invariant-loop-w
invariant-loop-w l = true ≡ all (length l.yielded) (λ i. window_kept (word (block_of l.fn.b) i) (time l.fn.times i))
