use Rattle.folds.specs.Kit.{◌≡◌, sym, ◌∙◌, ◌≤◌, ◌+◌, length, arith, rules}
use mathlib.Core.List.{List}
use lib.ListN.{take}
use lib.Ieee.{Float}
use lib.Seq.{length-take-le}
use Rattle.placement.specs.Code.{times-off, times-planned, times_break, times_priced, times-answer}
use Rattle.placement.proofs.written.Goals as goal
use Rattle.placement.proofs.written.Goals.{In-Some, Start}

-- the arrays of weights and multipliers have room for what counts of them
module _ (c : Start) where
  abbrev x : List Float
  x = c.args.x

  abbrev μ : List Float
  μ = c.args.multipliers

  x-room : c.args.b.words ≤ length x
  x-room = let e : length x ≡ 32 = search rules in omega (arith, c.requires.sound.words)

  μ-room : c.args.b.anchors + c.args.b.spans ≤ length μ
  μ-room = let e : length μ ≡ 24 = search rules in omega (arith, c.requires.sound.anchors, c.requires.sound.spans)

  x-long : length (take c.args.b.words x) ≡ c.args.b.words
  x-long = length-take-le _ _ x-room

  μ-long : length (take (c.args.b.anchors + c.args.b.spans) μ) ≡ c.args.b.anchors + c.args.b.spans
  μ-long = length-take-le _ _ μ-room

times-room : (c : In-Some) → c.args.b.words ≤ length c.in-Some.times
times-room c = let e : length c.in-Some.times ≡ 32 = search rules in omega (arith, c.requires.sound.words)

pub slice_bounds-x-end : goal.slice_bounds-x-end
slice_bounds-x-end c = x-room (goal.at.slice_bounds-x-end c).Start

pub slice_bounds-times_of-end : goal.slice_bounds-times_of-end
slice_bounds-times_of-end c = sym (x-long (goal.at.slice_bounds-times_of-end c).Start)

pub times_of-requires : goal.times_of-requires
times_of-requires c = let s = (goal.at.times_of-requires c).Start in omega (arith, x-long s, c.requires.sound.words)

pub returns-in_default : goal.returns-in_default
returns-in_default c =
    let s = (goal.at.returns-in_default c).Start in
    times-off c.requires.sound c.requires.ranged (x s) (μ s) (x-room s) (μ-room s) _ _ (rw c.in_default.is at c.times_of.ensures)

pub slice_bounds-times-end : goal.slice_bounds-times-end
slice_bounds-times-end c = times-room (goal.at.slice_bounds-times-end c).In-Some

pub slice_bounds-bounded-end : goal.slice_bounds-bounded-end
slice_bounds-bounded-end c = sym (length-take-le _ _ (times-room (goal.at.slice_bounds-bounded-end c).In-Some))

pub bounded-requires : goal.bounded-requires
bounded-requires c =
    let s = (goal.at.bounded-requires c).Start in
    times-planned c.requires.sound c.requires.ranged (x s) (μ s) (x-room s) (μ-room s) _ c.in-Some.ensures (length-take-le _ _ (times-room (goal.at.bounded-requires c).In-Some))

pub returns-then-not-bounded : goal.returns-then-not-bounded
returns-then-not-bounded c =
    let s = (goal.at.returns-then-not-bounded c).Start in
    times_break c.requires.sound c.requires.ranged (x s) (μ s) (x-room s) (μ-room s) _ c.in-Some.ensures _ _ (sym c.bounded.ensures ∙ c.if-not-bounded.true)

pub slice_bounds-multipliers-end : goal.slice_bounds-multipliers-end
slice_bounds-multipliers-end c = μ-room (goal.at.slice_bounds-multipliers-end c).Start

pub slice_bounds-prices_of-end : goal.slice_bounds-prices_of-end
slice_bounds-prices_of-end c = sym (μ-long (goal.at.slice_bounds-prices_of-end c).Start)

pub prices_of-prices-requires : goal.prices_of-prices-requires
prices_of-prices-requires c =
    let s = (goal.at.prices_of-prices-requires c).Start in omega (arith, μ-long s, c.requires.sound.anchors, c.requires.sound.spans)

pub with_gap-requires : goal.with_gap-requires
with_gap-requires c =
    let s = (goal.at.with_gap-requires c).Start in
    record {
      sound = c.requires.sound;
      ranged = c.requires.ranged;
      plan_and_prices = times_priced c.requires.sound c.requires.ranged (x s) (μ s) (x-room s) (μ-room s) _ c.in-Some.ensures (sym c.bounded.ensures ∙ c.if-not-bounded.false) c.prices_of-prices.ensures;
    }

pub returns : goal.returns
returns c =
    let s = (goal.at.returns c).Start in
    times-answer c.requires.sound c.requires.ranged (x s) (μ s) (x-room s) (μ-room s) _ c.in-Some.ensures (sym c.bounded.ensures ∙ c.if-not-bounded.false) c.prices_of-prices.ensures c.with_gap.ensures.answer c.with_gap.ensures.of_block
