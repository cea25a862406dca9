use borrow.Author.Tests.{not-true, not-false}
use mathlib.Core.Bool.{not}
use lib.IntN.{pos}
use lib.ListN.{get_or}
use Rattle.folds.specs.Kit.{◌≡◌, sym, ap, ◌∙◌, ◌<◌, arith}
use Rattle.folds.specs.Fold.{all-none, all_turn, all_stop, all_end}
use mir.Syntax.{w64}
use mir.Val.{to_z, of_z}
use Rattle.ints.specs.Held.{Held, read}
use Rattle.block.specs.Block as Spec
use Rattle.block.specs.Keeps.{anchor_miss, miss_bounded}
use Rattle.block.specs.Laws.{anchors_bounded-is}
use Rattle.block.specs.Fits.{anchor_miss-b}
use Rattle.format.specs.Structs.{anchor_of, block_of, list_of, anchor_at, no_pairs}
use Rattle.format.specs.Entries.{anchors-length, anchor-is}
use Rattle.format.specs.Lent.{Lent, lent-anchors}
use Rattle.format.specs.declared.Anchor.{Anchor}
use Rattle.exact.specs.Planned.{plan-anchor}
use Rattle.bounds.specs.Misses.{missed, miss_tested}
use Rattle.bounds.proofs.anchors_bounded.Goals as goal
use Rattle.bounds.proofs.anchors_bounded.Goals.{After-anchor_miss, After-miss_bounded, After-anchors-a-items}
use Rattle.bounds.proofs.anchors_bounded.Invariants.{kept}

lent : (c : After-anchors-a-items) → Lent c.args.b.anchor c.args.b.anchors c.anchors-a-items.result.now
lent c = lent-anchors c.requires.sound c.anchors-a-items.ensures

-- ---- a turn: the miss, and its test
module _ (c : After-anchor_miss) where
  here : Lent c.args.b.anchor c.args.b.anchors c.anchors-a-items.result.now
  here = lent (goal.at.After-anchor_miss c).After-anchors-a-items

  h : c.loop-a.a-index < c.args.b.anchors
  h = here.within c.loop-a-test.true

  is : get_or c.anchors-a-items.result.now c.loop-a.a-index (record { value = pos 0; list = no_pairs }) ≡ anchor_at c.args.b c.loop-a.a-index
  is = here.at _ c.loop-a-test.true

  given : c.anchor_miss.result ≡ anchor_miss (anchor_of (anchor_at c.args.b c.loop-a.a-index)) c.args.times.now
  given = c.anchor_miss.ensures ∙ ap (λ (e : Anchor). anchor_miss (anchor_of e) c.args.times.now) is

  miss : Held w64 (of_z w64 c.anchor_miss.result) (anchor_miss (anchor_of (anchor_at c.args.b c.loop-a.a-index)) c.args.times.now) 16777216
  miss =
      missed (λ (e : Spec.Anchor). anchor_miss e c.args.times.now) (λ e. e.list) (anchor-is c.requires.sound h)
      (anchor_miss-b c.requires.timed (plan-anchor c.requires h)) given

tested : (c : After-miss_bounded) → c.miss_bounded.result ≡ kept c.args.times.now (Spec.anchor (block_of c.args.b) c.loop-a.a-index)
tested c =
    let m = (goal.at.After-miss_bounded c).After-anchor_miss in
    miss_tested (λ (e : Spec.Anchor). anchor_miss e c.args.times.now) (λ e. e.list) (anchor-is c.requires.sound (h m))
    (anchor_miss-b c.requires.timed (plan-anchor c.requires (h m))) (given m)
    (c.miss_bounded.ensures ∙ ap (λ (e : Anchor). miss_bounded (to_z w64 (of_z w64 c.anchor_miss.result)) (list_of e.list)) (is m))

pub loop-a-init : goal.loop-a-init
loop-a-init c = all-none _

pub anchor_miss-requires : goal.anchor_miss-requires
anchor_miss-requires c =
    let p = c.requires in
    let l = lent (goal.at.anchor_miss-requires c).After-anchors-a-items in
    let h = l.within c.loop-a-test.true in
    rw (l.at _ c.loop-a-test.true) (record { filled = p.sound.anchor_list _ h; ranged_anchor = plan-anchor p h; timed = p.timed })

pub miss_bounded-requires : goal.miss_bounded-requires
miss_bounded-requires c =
    let m = (goal.at.miss_bounded-requires c).After-anchor_miss in
    record {
      miss = read (miss m);
      filled = rw (is m) (c.requires.sound.anchor_list _ (h m));
      short = rw (is m) (plan-anchor c.requires (h m)).list.short;
    }

pub returns-then-not-miss_bounded : goal.returns-then-not-miss_bounded
returns-then-not-miss_bounded c =
    let n = anchors-length c.requires.sound in
    let l = (lent (goal.at.returns-then-not-miss_bounded c).After-anchors-a-items).long in
    all_stop _ _ _ (omega (arith, c.loop-a-test.true))
    (sym (tested (goal.at.returns-then-not-miss_bounded c).After-miss_bounded) ∙ not-true _ (ap not c.if-not-miss_bounded.true)) ∙ sym (anchors_bounded-is _ _)

pub loop-a-preserved : goal.loop-a-preserved
loop-a-preserved c =
    all_turn _ _ c.loop-a.invariant (sym (tested (goal.at.loop-a-preserved c).After-miss_bounded) ∙ not-false _ (ap not c.if-not-miss_bounded.false))

pub returns : goal.returns
returns c =
    let n = anchors-length c.requires.sound in
    let l = (lent (goal.at.returns c).After-anchors-a-items).long in
    all_end _ _ _ (omega (arith, c.loop-a.auto.a-index-end)) (omega arith) c.loop-a.invariant ∙ sym (anchors_bounded-is _ _)
