use mathlib.Core.Path.{◌≡◌}
use lib.IntN.{ℤ, ◌*ℤ◌}
use Rattle.ints.specs.Sum.{Σ}
use Rattle.ints.specs.Diff.{maxℤ}
use Rattle.block.specs.Block.{Span, span}
use Rattle.block.specs.Gap.{price}
use Rattle.format.specs.Structs.{block_of}
use Rattle.gap.specs.Prices.{span_prices}
use Rattle.gap.proofs.ends.Given as goal

-- price × lower and price × upper, the larger
abbrev pub larger : ℤ → Span → ℤ
larger p s = maxℤ (p *ℤ s.lower) (p *ℤ s.upper)

abbrev pub invariant-loop-k : goal.invariant-loop-k
invariant-loop-k l = l.sum ≡ Σ l.k (λ k. larger (price (span_prices (block_of l.fn.b) l.prices) k) (span (block_of l.fn.b) k))
