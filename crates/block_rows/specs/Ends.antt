-- Which end of a span a loop takes: what the calls of a closure give of each span, as the code holds it.
use Rattle.std.specs.Prelude.{◌≡◌, ℕ, ℤ}
use Rattle.ints.specs.Bound.{◌≼◌}
use Rattle.block.specs.Block as Spec
use Rattle.block.specs.Ranges.{RangedSpan}
use Rattle.format.specs.Structs.{span_of}
use Rattle.format.specs.declared.Span.{Span}

abbrev pub Gives : (returns : Span → ℤ → Type 0) → (end : Spec.Span → ℤ) → Type 0
Gives returns end = (s : Span) (z : ℤ) → returns s z → z ≡ end (span_of s)

-- of a span in its ranges, a number in them
abbrev pub GivesSmall : (n : ℕ) → (returns : Span → ℤ → Type 0) → Type 0
GivesSmall n returns = (s : Span) (z : ℤ) → RangedSpan n (span_of s) → returns s z → z ≼ 8388608
