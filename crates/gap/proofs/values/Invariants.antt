use mathlib.Core.Path.{◌≡◌}
use lib.ListN.{length}
use lib.IntN.{◌*ℤ◌}
use Rattle.ints.specs.Sum.{Σ}
use Rattle.block.specs.Block.{anchor}
use Rattle.block.specs.Gap.{price}
use Rattle.format.specs.Structs.{block_of}
use Rattle.gap.specs.Prices.{anchor_prices}
use Rattle.gap.proofs.values.Given as goal

abbrev pub invariant-loop-a : goal.invariant-loop-a
invariant-loop-a l = l.sum ≡ Σ (length l.yielded) (λ k. price (anchor_prices (block_of l.fn.b) l.fn.prices) k *ℤ (anchor (block_of l.fn.b) k).value)
