use mathlib.Core.Path.{sym, ◌∙◌, ap₂}
use lib.Signed.{le_z}
use mir.Syntax.{w64}
use Rattle.folds.specs.Fold.{both-on, both_stop}
use Rattle.ints.specs.Held.{cell, cast, tested≤}
use Rattle.block.specs.Laws.{window_kept-is}
use Rattle.bounds.proofs.window_kept.Goals as goal

pub returns-then-w-t : goal.returns-then-w-t
returns-then-w-t c =
    let p = c.requires in
    both-on (tested≤ (cast w64 p.ranged_word.lower tt) (cell w64 p.t tt) c.if-w-t.true)
    (ap₂ le_z (cell w64 p.t tt).is (cast w64 p.ranged_word.upper tt).is)
    ∙ sym (window_kept-is _ _)

pub returns : goal.returns
returns c =
    let p = c.requires in
    both_stop _ (tested≤ (cast w64 p.ranged_word.lower tt) (cell w64 p.t tt) c.if-w-t.false) ∙ sym (window_kept-is _ _)
