use mir.Syntax.{w64}
use Rattle.folds.specs.Kit.{refl, sym, ap, ◌∙◌, set, length-set, fold_call, arith, kit}
use Rattle.ints.specs.Held.{Cell, cell, read}
use Rattle.nearest.specs.Value.{fromℤ}
use Rattle.block.specs.Block.{Span}
use Rattle.format.specs.Structs.{span_of}
use Rattle.format.specs.Entries.{spans-length, span-is, span_in}
use Rattle.format.specs.Lent.{lent-spans}
use Rattle.block_rows.specs.Rows.{each_span}
use Rattle.block_floats.specs.Entries.{filled_by}
use Rattle.block_rows.proofs.each_span.Goals as goal
use Rattle.block_rows.proofs.each_span.Goals.{After-end}

small : (g : _) (c : After-end g) → Cell w64 c.end.result 8388608
small g c =
    let lent = lent-spans c.requires.sound c.spans-s-items.ensures in
    cell w64 (c.requires.small _ _ (rw (lent.at _ c.loop-k-test.true) (span_in c.requires.sound c.requires.ranged (lent.within c.loop-k-test.true)))
    (record { shown = _; shows = refl; says = record { met = c.end.ensures } })) tt

pub whole-requires : goal.whole-requires
whole-requires g c = read (small g (goal.at.whole-requires g c).After-end)

pub loop-k-preserved : goal.loop-k-preserved
loop-k-preserved g c =
    let l = c.loop-k in
    let lent = lent-spans c.requires.sound c.spans-s-items.ensures in (
      simp length-set l.invariant.0,
      λ f gives. fold_call _ _ _ (l.invariant.1 f gives)
          (ap (set l.y l.k) (c.whole.ensures ∙ ap fromℤ ((small g (goal.at.loop-k-preserved g c).After-end).is
          ∙ gives _ _ (record { shown = _; shows = refl; says = record { met = c.end.ensures } }) ∙ ap (λ s. f (span_of s)) (lent.at _ c.loop-k-test.true)))),
    )

pub returns : goal.returns
unfolding each_span
returns g c = λ f gives.
    let l = c.loop-k in
    let lent = lent-spans c.requires.sound c.spans-s-items.ensures in
    filled_by _ _ _ _ _ _ (spans-length c.requires.sound) (λ i k. ap (λ (s : Span). fromℤ (f s)) (sym (span-is c.requires.sound k)))
    (omega (arith, l.auto.k-end, lent.long)) (omega (arith, c.loop-k-test.false, lent.long)) c.requires.y_len (l.invariant.1 f gives)

pub loop-k-init : goal.loop-k-init
loop-k-init g c = (refl, λ f gives. search kit)
