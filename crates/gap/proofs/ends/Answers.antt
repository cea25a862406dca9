use mathlib.Core.Path.{sym, ◌∙◌, ap}
use Prim.Native.Nat.{◌+◌, ◌<◌}
use native.Mathlib.Omega.{arith}
use lib.IntN.{ℤ}
use mir.Syntax.{w64}
use mir.Val.{to_z, of_z}
use Rattle.ints.specs.Sum.{Σ}
use Rattle.ints.specs.Bound.{◌≼◌, max-b}
use Rattle.ints.specs.Held.{Held, called, read, Σ-none, Σ-fits, Σ_turn, Σ_end}
use Rattle.block.specs.Block.{span}
use Rattle.block.specs.Gap.{price}
use Rattle.block.specs.Ranges.{Priced}
use Rattle.block.specs.Laws.{ends-is}
use Rattle.block.specs.Fits.{low-b, high-b, ends-b}
use Rattle.format.specs.Structs.{span_of, block_of, span_at}
use Rattle.format.specs.Entries.{spans-length, span-is, in_spans, span_in}
use Rattle.format.specs.Lent.{Lent, lent-spans}
use Rattle.format.specs.declared.Span.{Span}
use Rattle.gap.specs.Prices.{span_prices, prices_with}
use Rattle.gap.specs.Input.{span_paid, list-parts}
use Rattle.gap.proofs.ends.Goals as goal
use Rattle.gap.proofs.ends.Goals.{After-end_of-sum, In-loop-k}
use Rattle.gap.proofs.ends.Invariants.{larger}

-- ---- a turn: span k's price stands after the anchors'
module _ (c : In-loop-k) where
  lent : Lent c.args.b.span c.args.b.spans c.spans-s-items.result.now
  lent = lent-spans c.requires.sound c.spans-s-items.ensures

  h : c.loop-k.k < c.args.b.spans
  h = lent.within c.loop-k-test.true

  paid : Held w64 (of_z w64 (price c.args.prices.now (c.args.b.anchors + c.loop-k.k)))
      (price (span_prices (block_of c.args.b) c.args.prices.now) c.loop-k.k) 4294967296
  paid = span_paid c.requires h

module _ (c : After-end_of-sum) where
  abbrev P : Priced (prices_with (block_of c.args.b) c.args.prices.now 0)
  P = list-parts c.requires

  abbrev q : ℤ
  q = price (span_prices (block_of c.args.b) c.args.prices.now) c.loop-k.k

  term : Held w64 (of_z w64 c.end_of-sum.result) (larger q (span (block_of c.args.b) c.loop-k.k)) 36028797018963968
  term =
      let s = (goal.at.After-end_of-sum c).In-loop-k in
      let i = in_spans c.requires.sound (h s) in
      called w64
      (c.end_of-sum.ensures
      ∙ ap (λ (e : Span). larger (to_z w64 (of_z w64 (price c.args.prices.now (c.args.b.anchors + c.loop-k.k)))) (span_of e)) ((lent s).at _ c.loop-k-test.true)
      ∙ ap (λ (y : ℤ). larger y (span_of (span_at c.args.b c.loop-k.k))) (paid (goal.at.After-end_of-sum c).In-loop-k).is
      ∙ ap (larger q) (sym (span-is c.requires.sound (h s))))
      (max-b (low-b c.requires.ranged P c.loop-k.k i) (high-b c.requires.ranged P c.loop-k.k i)) tt

  so-far-b : Σ c.loop-k.k
      (λ k. larger (price (span_prices (block_of c.args.b) c.args.prices.now) k) (span (block_of c.args.b) k))
      ≼ 576460752303423488
  so-far-b = ends-b c.requires.ranged P c.loop-k.k (omega (arith, h (goal.at.After-end_of-sum c).In-loop-k, spans-length c.requires.sound))

pub loop-k-init : goal.loop-k-init
loop-k-init c = (Σ-none _).total

pub end_of-sum-requires : goal.end_of-sum-requires
end_of-sum-requires c =
    let s = (goal.at.end_of-sum-requires c).In-loop-k in
    let e = span_in c.requires.sound c.requires.ranged (h s) in
    rw ((lent s).at _ c.loop-k-test.true) (read (paid s), record { size = e.lower }, record { size = e.upper })

pub overflow_add-sum : goal.overflow_add-sum
overflow_add-sum c = Σ-fits {s = c.loop-k.sum-bits} (record { total = c.loop-k.invariant }) (so-far-b (goal.at.overflow_add-sum c).After-end_of-sum) (term (goal.at.overflow_add-sum c).After-end_of-sum) tt

pub loop-k-preserved : goal.loop-k-preserved
loop-k-preserved c = (Σ_turn {s = c.loop-k.sum-bits} (record { total = c.loop-k.invariant }) (so-far-b (goal.at.loop-k-preserved c).After-end_of-sum) (term (goal.at.loop-k-preserved c).After-end_of-sum) tt).total

pub returns : goal.returns
returns c =
    let n = spans-length c.requires.sound in
    let l = (lent-spans c.requires.sound c.spans-s-items.ensures).long in
    Σ_end {s = c.loop-k.sum-bits} (record { total = c.loop-k.invariant }) _ (omega (arith, c.loop-k.auto.k-end)) (omega arith) ∙ sym (ends-is _ _)
