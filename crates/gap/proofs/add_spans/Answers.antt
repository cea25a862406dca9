use mathlib.Core.Path.{sym, ◌∙◌, ap, ap₂}
use Prim.Native.Nat.{◌+◌, ◌<◌}
use native.Mathlib.Omega.{arith}
use lib.Dec.{lit≤}
use lib.IntN.{ℤ, pos, ◌*ℤ◌}
use mir.Syntax.{w64}
use mir.Val.{to_z, of_z}
use Rattle.ints.specs.Held.{Held, read}
use Rattle.block.specs.Block.{Span}
use Rattle.block.specs.Gap.{price, coef_of}
use Rattle.block.specs.Laws.{span_part-is}
use Rattle.block.specs.Fits.{span_parts_b}
use Rattle.format.specs.Structs.{block_of, list_of, no_pairs}
use Rattle.format.specs.Lent.{Lent, lent-spans}
use Rattle.format.specs.Entries.{spans-length, span-is, span_in}
use Rattle.gap.specs.Prices.{span_prices}
use Rattle.gap.specs.Input.{span_paid, list-parts}
use Rattle.gap.specs.Words.{Within, totals_none, totals_turn, totals_end, totals_small}
use Rattle.gap.proofs.add_spans.Goals as goal
use Rattle.gap.proofs.add_spans.Goals.{In-loop-k}

-- ---- a turn: span k's price, which stands after the anchors', and its list
module _ (c : In-loop-k) where
  lent : Lent c.args.b.span c.args.b.spans c.spans-s-items.result.now
  lent = lent-spans c.requires.price_list.sound c.spans-s-items.ensures

  h : c.loop-k.k < c.args.b.spans
  h = lent.within c.loop-k-test.true

  paid : Held w64 (of_z w64 (price c.args.prices.now (c.args.b.anchors + c.loop-k.k)))
      (price (span_prices (block_of c.args.b) c.args.prices.now) c.loop-k.k) 4294967296
  paid = span_paid c.requires.price_list h

  so_far : Within c.args.b.words c.loop-k.sums 5497558138880
  so_far =
      totals_small c.loop-k.invariant c.requires.within
      (λ i. span_parts_b c.requires.price_list.ranged (list-parts c.requires.price_list) i _
      (omega (arith, h, spans-length c.requires.price_list.sound))) (lit≤ tt)

pub loop-k-init : goal.loop-k-init
loop-k-init c = totals_none _ _ _

pub add_price-next-requires : goal.add_price-next-requires
add_price-next-requires c =
    let s = (goal.at.add_price-next-requires c).In-loop-k in
    let L = c.requires.price_list in
    record {
      filled = rw ((lent s).at _ c.loop-k-test.true) (L.sound.span_list _ (h s));
      short = rw ((lent s).at _ c.loop-k-test.true) (span_in L.sound L.ranged (h s)).list.short;
      p = (read (paid s), L.sound.words, so_far s);
    }

pub loop-k-preserved : goal.loop-k-preserved
loop-k-preserved c =
    let e = (goal.at.loop-k-preserved c).In-loop-k in
    totals_turn c.loop-k.invariant c.add_price-next.ensures
    (λ i. ap (λ m. to_z w64 (of_z w64 (price c.args.prices.now (c.args.b.anchors + c.loop-k.k))) *ℤ coef_of i (list_of m.list)) ((lent e).at (record { lower = pos 0; upper = pos 0; list = no_pairs }) c.loop-k-test.true)
    ∙ ap₂ (λ (q : ℤ) (m : Span). q *ℤ coef_of i m.list) (paid e).is (sym (span-is c.requires.price_list.sound (h e))))

pub returns : goal.returns
returns c =
    let n = spans-length c.requires.price_list.sound in
    let l = (lent-spans c.requires.price_list.sound c.spans-s-items.ensures).long in
    totals_end c.loop-k.invariant _ (omega (arith, c.loop-k.auto.k-end)) (omega arith) (span_part-is _ _)
