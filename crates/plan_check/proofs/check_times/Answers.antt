use mathlib.Core.Path.{refl, sym, ◌∙◌}
use Rattle.folds.specs.Fold.{pick_true, pick_false}
use Rattle.plan_check.specs.Check.{time_refusal}
use Rattle.plan_check.proofs.check_times.Goals as goal

pub returns-then-not-times_in : goal.returns-then-not-times_in
unfolding time_refusal
returns-then-not-times_in c = pick_false _ _ (sym c.times_in.ensures ∙ c.if-not-times_in.true) refl

pub returns : goal.returns
unfolding time_refusal
returns c = pick_true _ _ (sym c.times_in.ensures ∙ c.if-not-times_in.false) refl
