use Rattle.folds.specs.Kit.{◌-◌, arith, rules, spans, span_call}
use Rattle.rotation.specs.Rotation.{rotate}
use Rattle.eigen.specs.Eigen.{sweep_row}
use Rattle.eigen.proofs.sweep_row.Goals as goal

ruleset kit = (spans, rules)

pub loop-q-preserved : goal.loop-q-preserved
unfolding sweep_row
loop-q-preserved c =
    let at = c.loop-q.invariant in
    (omega arith, omega arith, omega arith, omega arith, span_call _ _ _ _ at.0 at.4 c.rotate.ensures)

pub loop-q-init : goal.loop-q-init
unfolding sweep_row
loop-q-init c = search kit

pub returns : goal.returns
unfolding sweep_row
returns c = search kit
