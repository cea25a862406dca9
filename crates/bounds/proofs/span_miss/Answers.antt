use mathlib.Core.Path.{◌≡◌, sym, ◌∙◌}
use lib.IntN.{ℤ}
use mir.Syntax.{w64}
use mir.Val.{of_z}
use Rattle.ints.specs.Held.{Held, Cell, cell, called, read}
use Rattle.block.specs.Plan.{sum_of}
use Rattle.block.specs.Keeps.{outside}
use Rattle.block.specs.Laws.{span_miss-is}
use Rattle.block.specs.Fits.{sum_of-b, span_miss-b}
use Rattle.format.specs.Structs.{list_of}
use Rattle.bounds.proofs.span_miss.Goals as goal
use Rattle.bounds.proofs.span_miss.Goals.{After-list_sum}

module _ (c : After-list_sum) where
  sum : Held w64 (of_z w64 c.list_sum.result) (sum_of (list_of c.args.s.list) c.args.times.now) 8388608
  sum = called w64 c.list_sum.ensures (sum_of-b c.requires.ranged_span.list c.requires.timed) tt

  low : Cell w64 c.args.s.lower 8388608
  low = cell w64 (record { size = c.requires.ranged_span.lower }) tt

  high : Cell w64 c.args.s.upper 8388608
  high = cell w64 (record { size = c.requires.ranged_span.upper }) tt

outside-same : {l l' u u' s s' : ℤ} → l ≡ l' → u ≡ u' → s ≡ s' → outside l u s ≡ outside l' u' s'
outside-same p q r = λ i. outside (p i) (q i) (r i)

pub outside-requires : goal.outside-requires
outside-requires c = (read (low (goal.at.outside-requires c).After-list_sum), read (high (goal.at.outside-requires c).After-list_sum), read (sum (goal.at.outside-requires c).After-list_sum))

pub returns : goal.returns
returns c =
    let b = (goal.at.returns c).After-list_sum in
    (called w64 (c.outside.ensures ∙ outside-same (low b).is (high b).is (sum b).is ∙ sym (span_miss-is _ _))
    (span_miss-b c.requires.timed c.requires.ranged_span) tt).is
