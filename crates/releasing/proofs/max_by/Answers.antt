use Rattle.folds.specs.Kit.{◌∙◌, refl, sym, ap, pick_true, pick_false}
use mathlib.Core.Bool.{not}
use Rattle.folds.specs.Best.{better}
use Rattle.releasing.proofs.max_by.Goals as goal

pub returns-in_default : goal.returns-in_default
unfolding better
returns-in_default c = rw c.in_default.is

pub returns-in_default-best : goal.returns-in_default-best
unfolding better
returns-in_default-best c = rw (c.in_default-best.is, c.in-Some.is)

pub returns-then-total_less : goal.returns-then-total_less
unfolding better
returns-then-total_less c =
    rw (c.in-Some-best.is, c.in-Some.is) (pick_false _ _ (ap not (sym c.total_less.ensures ∙ c.if-total_less.true)) refl)

pub returns : goal.returns
unfolding better
returns c =
    rw (c.in-Some-best.is, c.in-Some.is) (pick_true _ _ (ap not (sym c.total_less.ensures ∙ c.if-total_less.false)) refl)
