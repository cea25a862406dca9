use borrow.Author.Tests.{eq-eqb, ne_eqb}
use mathlib.Core.Path.{refl}
use Rattle.folds.specs.Fold.{pick_true, pick_false}
use Rattle.format.specs.Laws.{order_is}
use Rattle.format.specs.Equations.{rises_by}
use Rattle.bodies.proofs.rises.Goals as goal

pub returns-then-i-eq0 : goal.returns-then-i-eq0
returns-then-i-eq0 c = rises_by _ _ _ (pick_true _ _ (eq-eqb _ _ c.if-i-eq0.true) refl)

pub returns : goal.returns
returns c =
    rises_by _ _ _
    (pick_false _ _ (ne_eqb _ _ c.if-i-eq0.false) (order_is c.byte_at.ensures.0 c.byte_at-2.ensures.0))
