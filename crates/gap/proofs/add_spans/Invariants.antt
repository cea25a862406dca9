use mathlib.Core.List.{List}
use Prim.Native.Nat.{ℕ}
use lib.IntN.{ℤ, ◌*ℤ◌}
use Rattle.block.specs.Block.{Block, span}
use Rattle.block.specs.Gap.{price, coef_of}
use Rattle.format.specs.Structs.{block_of}
use Rattle.gap.specs.Prices.{span_prices}
use Rattle.gap.specs.Words.{Totals}
use Rattle.gap.proofs.add_spans.Given as goal

-- span k's part for word i
abbrev pub part : Block → (prices : List ℤ) (i k : ℕ) → ℤ
part b p i k = price (span_prices b p) k *ℤ coef_of i (span b k).list

abbrev pub invariant-loop-k : goal.invariant-loop-k
invariant-loop-k l = Totals l.fn.b.words l.initial.sums l.k (part (block_of l.fn.b) l.prices) l.sums
