use Rattle.folds.specs.Kit.{ap, sym, ◌∙◌, ◌≤◌, ◌+◌, length, rules}
use lib.Seq.{length-take-le}
use mir.Syntax.{w64}
use mir.Facts.{to_z-of_z}
use Rattle.std.specs.Prelude.{ℤ, take}
use Rattle.answer.specs.File.{answer_of}
use Rattle.placement.proofs.with_gap.Goals as goal
use Rattle.placement.proofs.with_gap.Goals.{Start}

-- the arrays have room for what counts of them
module _ (c : Start) where
  times-room : c.args.b.words ≤ length c.args.times
  times-room = search rules

  prices-room : c.args.b.anchors + c.args.b.spans + 1 ≤ length c.args.prices
  prices-room = search rules

pub slice_bounds-times-end : goal.slice_bounds-times-end
slice_bounds-times-end c = times-room (goal.at.slice_bounds-times-end c).Start

pub slice_bounds-gap_of-end : goal.slice_bounds-gap_of-end
slice_bounds-gap_of-end c = sym (length-take-le _ _ (times-room (goal.at.slice_bounds-gap_of-end c).Start))

pub slice_bounds-prices-end : goal.slice_bounds-prices-end
slice_bounds-prices-end c = prices-room (goal.at.slice_bounds-prices-end c).Start

pub slice_bounds-gap_of-end-2 : goal.slice_bounds-gap_of-end-2
slice_bounds-gap_of-end-2 c = sym (length-take-le _ _ (prices-room (goal.at.slice_bounds-gap_of-end-2 c).Start))

pub gap_of-gap-requires : goal.gap_of-gap-requires
gap_of-gap-requires c = c.requires

pub returns-clause-answer : goal.returns-clause-answer
returns-clause-answer c =
    let a = c.args in
    let x = take a.b.words a.times in
    let p = take (a.b.anchors + a.b.spans + 1) a.prices in
    ap (λ (z : ℤ). answer_of x p z a.passes) (to_z-of_z {w = w64} (record { sfits = c.gap_of-gap.type_inv }) ∙ c.gap_of-gap.ensures)
