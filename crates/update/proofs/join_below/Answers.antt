use Rattle.folds.specs.Kit.{arith, length-set, rules, spans, span_call}
use Rattle.update.specs.Update.{join_below}
use Rattle.update.proofs.join_below.Goals as goal

ruleset kit = (spans, rules)

pub loop-i-preserved : goal.loop-i-preserved
unfolding join_below
loop-i-preserved c =
    let at = c.loop-i.invariant in
    (omega arith, omega arith, simp length-set at.2, span_call _ _ _ _ at.0 at.3 (rw c.known-s.ensures))

pub loop-i-init : goal.loop-i-init
unfolding join_below
loop-i-init c = search kit
