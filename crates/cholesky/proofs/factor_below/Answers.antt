use Rattle.folds.specs.Kit.{◌≡◌, ◌+◌, ◌-◌, ◌≤◌, arith, length, rules, span, spans, span_call}
use Rattle.cholesky.specs.Cholesky.{factor_below, factor_entry}
use Rattle.cholesky.proofs.factor_below.Goals as goal

ruleset kit = (spans, rules)

pub loop-i-preserved : goal.loop-i-preserved
unfolding factor_below factor_entry
loop-i-preserved c =
    let at = c.loop-i in (
      omega arith,
      omega arith,
      omega arith,
      span_call _ _ _ _ at.invariant.0 at.invariant.3 (rw (c.put-in-loop-i.ensures, c.get-v.ensures, c.rows_dot-k.ensures)),
    )

pub returns : goal.returns
unfolding factor_below factor_entry
returns c = rw (← c.put.ensures) (search kit)

pub loop-i-init : goal.loop-i-init
unfolding factor_below factor_entry
loop-i-init c = search kit
