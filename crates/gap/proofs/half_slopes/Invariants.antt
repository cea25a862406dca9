use lib.ListN.{length, replicate}
use lib.IntN.{pos}
use Rattle.block.specs.Block.{tempo}
use Rattle.block.specs.Gap.{slope_of}
use Rattle.block.specs.Ranges.{max_words}
use Rattle.format.specs.Structs.{block_of}
use Rattle.gap.specs.Words.{Totals}
use Rattle.gap.proofs.half_slopes.Given as goal

abbrev pub invariant-loop-t : goal.invariant-loop-t
invariant-loop-t l = Totals (length l.times) (replicate max_words (pos 0)) l.t-index (λ i j. slope_of (tempo (block_of l.fn.b) j) l.times i) l.sums
