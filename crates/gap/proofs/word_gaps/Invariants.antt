use mathlib.Core.Path.{◌≡◌}
use Rattle.ints.specs.Sum.{Σ}
use Rattle.block.specs.Gap.{word_gap_of}
use Rattle.format.specs.Structs.{block_of}
use Rattle.gap.specs.Prices.{prices_with}
use Rattle.gap.proofs.word_gaps.Given as goal

abbrev pub invariant-loop-i : goal.invariant-loop-i
invariant-loop-i l = l.sum ≡ Σ l.i (word_gap_of (block_of l.fn.b) l.times (prices_with (block_of l.fn.b) l.fn.prices l.cap))
