use mathlib.Core.Path.{refl, sym, ◌∙◌}
use mir.Syntax.{w64}
use Rattle.folds.specs.Fold.{pick_true, pick_false}
use Rattle.ints.specs.Held.{Cell, cell, tested<, less}
use Rattle.block.specs.Laws.{outside-is}
use Rattle.bounds.proofs.outside.Goals as goal
use Rattle.bounds.proofs.outside.Goals.{Start}

module _ (a : Start) where
  lower : Cell w64 a.args.lower 8388608
  lower = cell w64 a.requires.0 tt

  upper : Cell w64 a.args.upper 8388608
  upper = cell w64 a.requires.1 tt

  s : Cell w64 a.args.s 8388608
  s = cell w64 a.requires.2 tt

pub returns-then-s-lower : goal.returns-then-s-lower
returns-then-s-lower c =
    let a = (goal.at.returns-then-s-lower c).Start in
    pick_true _ _ (tested< (s a) (lower a) c.if-s-lower.true) (less (lower a) (s a) tt).is ∙ sym (outside-is _ _ _)

pub returns-then-upper-s : goal.returns-then-upper-s
returns-then-upper-s c =
    let a = (goal.at.returns-then-upper-s c).Start in
    pick_false _ _ (tested< (s a) (lower a) c.if-s-lower.false)
    (pick_true _ _ (tested< (upper a) (s a) c.if-upper-s.true) (less (s a) (upper a) tt).is) ∙ sym (outside-is _ _ _)

pub returns : goal.returns
returns c =
    let a = (goal.at.returns c).Start in
    pick_false _ _ (tested< (s a) (lower a) c.if-s-lower.false) (pick_false _ _ (tested< (upper a) (s a) c.if-upper-s.false) refl)
    ∙ sym (outside-is _ _ _)
