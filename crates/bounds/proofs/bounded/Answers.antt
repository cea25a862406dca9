use borrow.Author.Tests.{not-true, not-false}
use mathlib.Core.Bool.{not}
use Rattle.folds.specs.Kit.{◌≡◌, sym, ap, ◌∙◌, true}
use Rattle.folds.specs.Fold.{both-on, both_stop}
use Rattle.block.specs.Keeps.{windows_kept, moves_bounded, anchors_bounded}
use Rattle.block.specs.Laws.{bounded-is}
use Rattle.format.specs.Structs.{block_of}
use Rattle.bounds.proofs.bounded.Goals as goal
use Rattle.bounds.proofs.bounded.Goals.{Else-not-anchors_bounded, Else-not-moves_bounded, Else-not-windows_kept}

-- ---- the tests that were passed
windows : (c : Else-not-windows_kept) → windows_kept (block_of c.args.b) c.args.times.now ≡ true
windows c = sym c.windows_kept.ensures ∙ not-false _ (ap not c.if-not-windows_kept.false)

moves : (c : Else-not-moves_bounded) → moves_bounded (block_of c.args.b) c.args.times.now ≡ true
moves c = sym c.moves_bounded.ensures ∙ not-false _ (ap not c.if-not-moves_bounded.false)

anchors : (c : Else-not-anchors_bounded) → anchors_bounded (block_of c.args.b) c.args.times.now ≡ true
anchors c = sym c.anchors_bounded.ensures ∙ not-false _ (ap not c.if-not-anchors_bounded.false)

pub returns-then-not-windows_kept : goal.returns-then-not-windows_kept
returns-then-not-windows_kept c = both_stop _ (sym c.windows_kept.ensures ∙ not-true _ (ap not c.if-not-windows_kept.true)) ∙ sym (bounded-is _ _)

pub returns-then-not-moves_bounded : goal.returns-then-not-moves_bounded
returns-then-not-moves_bounded c =
    both-on (windows (goal.at.returns-then-not-moves_bounded c).Else-not-windows_kept)
    (both_stop _ (sym c.moves_bounded.ensures ∙ not-true _ (ap not c.if-not-moves_bounded.true))) ∙ sym (bounded-is _ _)

pub returns-then-not-anchors_bounded : goal.returns-then-not-anchors_bounded
returns-then-not-anchors_bounded c =
    both-on (windows (goal.at.returns-then-not-anchors_bounded c).Else-not-windows_kept)
    (both-on (moves (goal.at.returns-then-not-anchors_bounded c).Else-not-moves_bounded)
    (both_stop _ (sym c.anchors_bounded.ensures ∙ not-true _ (ap not c.if-not-anchors_bounded.true))))
    ∙ sym (bounded-is _ _)

pub returns : goal.returns
returns c =
    both-on (windows (goal.at.returns c).Else-not-windows_kept)
    (both-on (moves (goal.at.returns c).Else-not-moves_bounded) (both-on (anchors (goal.at.returns c).Else-not-anchors_bounded) c.spans_bounded.ensures))
    ∙ sym (bounded-is _ _)
