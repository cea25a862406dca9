use Rattle.folds.specs.Kit.{sym, ◌∙◌}
use Rattle.folds.specs.Fold.{both-on, both_stop}
use Rattle.original_units.specs.Original.{feasible}
use Rattle.original_units.proofs.feasible.Goals as goal

pub returns-then-checked : goal.returns-then-checked
unfolding feasible
returns-then-checked c = both-on (sym c.checked.ensures ∙ c.if-checked.true) c.meets_rows.ensures

pub returns : goal.returns
unfolding feasible
returns c = both_stop _ (sym c.checked.ensures ∙ c.if-checked.false)
