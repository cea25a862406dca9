use mathlib.Core.Path.{sym, ◌∙◌, ap, ap₂}
use Prim.Native.Nat.{◌<◌}
use native.Mathlib.Omega.{arith}
use lib.Dec.{lit≤}
use lib.IntN.{ℤ, pos, ◌*ℤ◌}
use mir.Syntax.{w64}
use mir.Val.{to_z, of_z}
use Rattle.ints.specs.Held.{Held, read}
use Rattle.block.specs.Block.{Anchor}
use Rattle.block.specs.Gap.{price, coef_of}
use Rattle.block.specs.Laws.{anchor_part-is}
use Rattle.block.specs.Fits.{anchor_parts_b}
use Rattle.format.specs.Structs.{block_of, list_of, no_pairs}
use Rattle.format.specs.Lent.{Lent, lent-anchors}
use Rattle.format.specs.Entries.{anchors-length, anchor-is, anchor_in}
use Rattle.gap.specs.Prices.{anchor_prices}
use Rattle.gap.specs.Input.{anchor_paid, list-parts}
use Rattle.gap.specs.Words.{Within, totals_none, totals_turn, totals_end, totals_small}
use Rattle.gap.proofs.add_anchors.Goals as goal
use Rattle.gap.proofs.add_anchors.Goals.{In-loop-k}

-- ---- a turn: the price and its list
module _ (c : In-loop-k) where
  lent : Lent c.args.b.anchor c.args.b.anchors c.anchors-a-items.result.now
  lent = lent-anchors c.requires.price_list.sound c.anchors-a-items.ensures

  h : c.loop-k.k < c.args.b.anchors
  h = lent.within c.loop-k-test.true

  paid : Held w64 (of_z w64 (price c.args.prices.now c.loop-k.k))
      (price (anchor_prices (block_of c.args.b) c.args.prices.now) c.loop-k.k) 4294967296
  paid = anchor_paid c.requires.price_list h

  so_far : Within c.args.b.words c.loop-k.sums 5497558138880
  so_far =
      totals_small c.loop-k.invariant c.requires.within
      (λ i. anchor_parts_b c.requires.price_list.ranged (list-parts c.requires.price_list) i _
      (omega (arith, h, anchors-length c.requires.price_list.sound))) (lit≤ tt)

pub loop-k-init : goal.loop-k-init
loop-k-init c = totals_none _ _ _

pub add_price-next-requires : goal.add_price-next-requires
add_price-next-requires c =
    let s = (goal.at.add_price-next-requires c).In-loop-k in
    let L = c.requires.price_list in
    record {
      filled = rw ((lent s).at _ c.loop-k-test.true) (L.sound.anchor_list _ (h s));
      short = rw ((lent s).at _ c.loop-k-test.true) (anchor_in L.sound L.ranged (h s)).list.short;
      p = (read (paid s), L.sound.words, so_far s);
    }

pub loop-k-preserved : goal.loop-k-preserved
loop-k-preserved c =
    let e = (goal.at.loop-k-preserved c).In-loop-k in
    totals_turn c.loop-k.invariant c.add_price-next.ensures
    (λ i. ap (λ m. to_z w64 (of_z w64 (price c.args.prices.now c.loop-k.k)) *ℤ coef_of i (list_of m.list)) ((lent e).at (record { value = pos 0; list = no_pairs }) c.loop-k-test.true)
    ∙ ap₂ (λ (q : ℤ) (m : Anchor). q *ℤ coef_of i m.list) (paid e).is (sym (anchor-is c.requires.price_list.sound (h e))))

pub returns : goal.returns
returns c =
    let n = anchors-length c.requires.price_list.sound in
    let l = (lent-anchors c.requires.price_list.sound c.anchors-a-items.ensures).long in
    totals_end c.loop-k.invariant _ (omega (arith, c.loop-k.auto.k-end)) (omega arith) (anchor_part-is _ _)
