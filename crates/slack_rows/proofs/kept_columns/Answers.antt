use Rattle.folds.specs.Kit.{refl, arith, over}
use Rattle.folds.specs.Chosen.{chosen, chosen-step}
use native.Mathlib.Nat.{le_antisymm}
use Rattle.slack_rows.specs.SlackRows.{keeps, kept_columns}
use Rattle.slack_rows.proofs.kept_columns.Goals as goal

pub loop-j-init : goal.loop-j-init
unfolding chosen over
loop-j-init c = (omega arith, omega arith, refl, refl, refl)

pub loop-j-preserved : goal.loop-j-preserved
loop-j-preserved c =
    let inv = c.loop-j.invariant in
    let a = c.args in
    let s =
    chosen-step _ (λ t. keeps a.e.now a.n a.solved.now a.slacks.now a.originals a.first t) _ inv.3 inv.4 (omega arith)
    (rw c.keeps-on.ensures at c.push_if-count.ensures.list_after) in
    (omega arith, omega (arith, c.push_if-count.ensures.upper_bound), omega arith, s.0, s.1)

pub returns : goal.returns
unfolding kept_columns
returns c =
    let inv = c.loop-j.invariant in
    let z = le_antisymm inv.0 c.loop-j-test.false in record {
      value = rw (← z) inv.3;
      kept_after = rw (← z) inv.4;
    }
