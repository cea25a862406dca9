use Rattle.folds.specs.Kit.{sym, ◌∙◌, arith, rules, alls}
use Rattle.folds.specs.Fold.{all_stop, all_turn}
use Rattle.columns.specs.Laws.{length-column}
use Rattle.units.specs.Units.{checked}
use Rattle.units.proofs.checked.Goals as goal

ruleset kit = (alls, rules)

pub met-requires : goal.met-requires
unfolding checked
met-requires c = (omega arith, omega arith, rw (c.column.ensures, length-column) (omega arith))

pub returns-then-not-met : goal.returns-then-not-met
unfolding checked
returns-then-not-met c = all_stop _ _ _ c.loop-j-test.true (rw (← c.column.ensures) (sym c.met.ensures ∙ c.if-not-met.true))

pub loop-j-preserved : goal.loop-j-preserved
unfolding checked
loop-j-preserved c = (
  omega arith,
  all_turn _ _ c.loop-j.invariant.1 (rw (← c.column.ensures) (sym c.met.ensures ∙ c.if-not-met.false)),
)

pub loop-j-init : goal.loop-j-init
unfolding checked
loop-j-init c = search kit
