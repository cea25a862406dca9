use Rattle.folds.specs.Kit.{◌-◌, arith, rules, spans, span_call}
use Rattle.eigen.specs.Eigen.{off_row}
use Rattle.eigen.proofs.off_row.Goals as goal

ruleset kit = (spans, rules)

pub loop-q-preserved : goal.loop-q-preserved
unfolding off_row
loop-q-preserved c = let at = c.loop-q.invariant in (omega arith, omega arith, span_call _ _ _ _ at.0 at.2 (rw c.get-apq.ensures))

pub loop-q-init : goal.loop-q-init
unfolding off_row
loop-q-init c = search kit

pub returns : goal.returns
unfolding off_row
returns c = search kit
