use Rattle.folds.specs.Kit.{arith, rules, ap, pick, walk_call, walk_stop, walks}
use Rattle.folds.specs.Fold.{ended, walk_end}
use Rattle.pivoting.specs.Pivoting.{pivoted}
use Rattle.pivoting.proofs.pivoted.Goals as goal

pub loop-row-init : goal.loop-row-init
loop-row-init c = search (walks, rules)

pub loop-row-preserved : goal.loop-row-preserved
unfolding pick
loop-row-preserved c =
    let inv = c.loop-row.invariant in
    let step = rw c.if-not-pivot_step.false at c.pivot_step.ensures.pivots_after in
    let rank = rw c.if-not-pivot_step.false at c.pivot_step.ensures.rank_value in
    (omega arith, omega arith, omega arith, omega arith, rank, walk_call _ _ _ inv.5 step)

pub returns-after-loop-row-clause-result_after : goal.returns-after-loop-row-clause-result_after
unfolding pivoted ended
returns-after-loop-row-clause-result_after c =
    let inv = c.loop-row.invariant in
    ap ended (walk_end _ _ _ _ inv.0 c.loop-row-test.false inv.5)

pub returns-then-not-pivot_step-clause-result_after : goal.returns-then-not-pivot_step-clause-result_after
unfolding pivoted ended
returns-then-not-pivot_step-clause-result_after c =
    let step = rw c.if-not-pivot_step.true at c.pivot_step.ensures.pivots_after in
    ap ended (walk_stop _ _ _ _ c.loop-row-test.true c.loop-row.invariant.5 step)

pub returns-then-not-pivot_step-clause-rank_le_p : goal.returns-then-not-pivot_step-clause-rank_le_p
unfolding pick
returns-then-not-pivot_step-clause-rank_le_p c =
    let rank = rw c.if-not-pivot_step.true at c.pivot_step.ensures.rank_value in omega (arith, rank, c.loop-row-test.true)
