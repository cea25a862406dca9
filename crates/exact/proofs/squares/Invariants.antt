use mathlib.Core.Path.{◌≡◌}
use Rattle.ints.specs.Sum.{Σ}
use Rattle.block.specs.Block.{tempo}
use Rattle.block.specs.Plan.{square_of}
use Rattle.format.specs.Structs.{block_of}
use Rattle.exact.proofs.squares.Given as goal

abbrev pub invariant-loop-t : goal.invariant-loop-t
invariant-loop-t l = l.sum ≡ Σ l.t-index (λ j. square_of (tempo (block_of l.fn.b) j) l.times)
