use mathlib.Core.Path.{◌≡◌}
use lib.ListN.{length}
use Rattle.ints.specs.Sum.{Σ}
use Rattle.block.specs.Block.{word}
use Rattle.block.specs.Plan.{time, move}
use Rattle.format.specs.Structs.{block_of}
use Rattle.exact.proofs.moves.Given as goal

abbrev pub invariant-loop-w : goal.invariant-loop-w
invariant-loop-w l = l.sum ≡ Σ (length l.yielded) (λ i. move (word (block_of l.fn.b) i) (time l.fn.times i))
