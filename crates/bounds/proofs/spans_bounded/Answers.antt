use borrow.Author.Tests.{not-true, not-false}
use mathlib.Core.Bool.{not}
use lib.IntN.{pos}
use lib.ListN.{get_or}
use Rattle.folds.specs.Kit.{◌≡◌, sym, ap, ◌∙◌, ◌<◌, arith}
use Rattle.folds.specs.Fold.{all-none, all_turn, all_stop, all_end}
use mir.Syntax.{w64}
use mir.Val.{to_z, of_z}
use Rattle.ints.specs.Held.{Held, read}
use Rattle.block.specs.Block as Spec
use Rattle.block.specs.Keeps.{span_miss, miss_bounded}
use Rattle.block.specs.Laws.{spans_bounded-is}
use Rattle.block.specs.Fits.{span_miss-b}
use Rattle.format.specs.Structs.{span_of, block_of, list_of, span_at, no_pairs}
use Rattle.format.specs.Entries.{spans-length, span-is}
use Rattle.format.specs.Lent.{Lent, lent-spans}
use Rattle.format.specs.declared.Span.{Span}
use Rattle.exact.specs.Planned.{plan-span}
use Rattle.bounds.specs.Misses.{missed, miss_tested}
use Rattle.bounds.proofs.spans_bounded.Goals as goal
use Rattle.bounds.proofs.spans_bounded.Goals.{After-span_miss, After-miss_bounded, After-spans-s-items}
use Rattle.bounds.proofs.spans_bounded.Invariants.{kept}

lent : (c : After-spans-s-items) → Lent c.args.b.span c.args.b.spans c.spans-s-items.result.now
lent c = lent-spans c.requires.sound c.spans-s-items.ensures

-- ---- a turn: the miss, and its test
module _ (c : After-span_miss) where
  here : Lent c.args.b.span c.args.b.spans c.spans-s-items.result.now
  here = lent (goal.at.After-span_miss c).After-spans-s-items

  h : c.loop-s.s-index < c.args.b.spans
  h = here.within c.loop-s-test.true

  is : get_or c.spans-s-items.result.now c.loop-s.s-index (record { lower = pos 0; upper = pos 0; list = no_pairs }) ≡ span_at c.args.b c.loop-s.s-index
  is = here.at _ c.loop-s-test.true

  given : c.span_miss.result ≡ span_miss (span_of (span_at c.args.b c.loop-s.s-index)) c.args.times.now
  given = c.span_miss.ensures ∙ ap (λ (e : Span). span_miss (span_of e) c.args.times.now) is

  miss : Held w64 (of_z w64 c.span_miss.result) (span_miss (span_of (span_at c.args.b c.loop-s.s-index)) c.args.times.now) 16777216
  miss =
      missed (λ (e : Spec.Span). span_miss e c.args.times.now) (λ e. e.list) (span-is c.requires.sound h)
      (span_miss-b c.requires.timed (plan-span c.requires h)) given

tested : (c : After-miss_bounded) → c.miss_bounded.result ≡ kept c.args.times.now (Spec.span (block_of c.args.b) c.loop-s.s-index)
tested c =
    let m = (goal.at.After-miss_bounded c).After-span_miss in
    miss_tested (λ (e : Spec.Span). span_miss e c.args.times.now) (λ e. e.list) (span-is c.requires.sound (h m))
    (span_miss-b c.requires.timed (plan-span c.requires (h m))) (given m)
    (c.miss_bounded.ensures ∙ ap (λ (e : Span). miss_bounded (to_z w64 (of_z w64 c.span_miss.result)) (list_of e.list)) (is m))

pub loop-s-init : goal.loop-s-init
loop-s-init c = all-none _

pub span_miss-requires : goal.span_miss-requires
span_miss-requires c =
    let p = c.requires in
    let l = lent (goal.at.span_miss-requires c).After-spans-s-items in
    let h = l.within c.loop-s-test.true in
    rw (l.at _ c.loop-s-test.true) (record { filled = p.sound.span_list _ h; ranged_span = plan-span p h; timed = p.timed })

pub miss_bounded-requires : goal.miss_bounded-requires
miss_bounded-requires c =
    let m = (goal.at.miss_bounded-requires c).After-span_miss in
    record {
      miss = read (miss m);
      filled = rw (is m) (c.requires.sound.span_list _ (h m));
      short = rw (is m) (plan-span c.requires (h m)).list.short;
    }

pub returns-then-not-miss_bounded : goal.returns-then-not-miss_bounded
returns-then-not-miss_bounded c =
    let n = spans-length c.requires.sound in
    let l = (lent (goal.at.returns-then-not-miss_bounded c).After-spans-s-items).long in
    all_stop _ _ _ (omega (arith, c.loop-s-test.true))
    (sym (tested (goal.at.returns-then-not-miss_bounded c).After-miss_bounded) ∙ not-true _ (ap not c.if-not-miss_bounded.true)) ∙ sym (spans_bounded-is _ _)

pub loop-s-preserved : goal.loop-s-preserved
loop-s-preserved c =
    all_turn _ _ c.loop-s.invariant (sym (tested (goal.at.loop-s-preserved c).After-miss_bounded) ∙ not-false _ (ap not c.if-not-miss_bounded.false))

pub returns : goal.returns
returns c =
    let n = spans-length c.requires.sound in
    let l = (lent (goal.at.returns c).After-spans-s-items).long in
    all_end _ _ _ (omega (arith, c.loop-s.auto.s-index-end)) (omega arith) c.loop-s.invariant ∙ sym (spans_bounded-is _ _)
