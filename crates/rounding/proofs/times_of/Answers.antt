use Rattle.std.specs.Prelude.{Some}
use Rattle.folds.specs.Kit.{◌≡◌, sym, ap, ◌∙◌, set, length-set, fold_call, rules, kit}
use Rattle.folds.specs.Fold.{all-none, all_turn}
use mir.Syntax.{w32}
use Rattle.arith.specs.Float.{at}
use Rattle.ints.specs.Held.{called}
use Rattle.rounding.specs.Lists.{time}
use Rattle.rounding.specs.Laws.{at_is, off-is, time-small, times-off, times-on}
use Rattle.rounding.proofs.times_of.Goals as goal

pub loop-i-init : goal.loop-i-init
loop-i-init c = (search rules, search rules, search kit, all-none _)

pub returns-in_err-times : goal.returns-in_err-times
returns-in_err-times c = rw c.from_residual.ensures (times-off _ _ c.loop-i-test.true (off-is _ (sym c.time_of.ensures ∙ c.in_err-times.was)))

pub loop-i-preserved : goal.loop-i-preserved
loop-i-preserved c =
    let l = c.loop-i in
    let told : time (at c.args.x.now l.i) ≡ Some c.in_ok-times.field-0 = sym c.time_of.ensures ∙ c.in_ok-times.was in
    let w = at_is _ told in (
      search rules,
      simp length-set l.invariant.1,
      fold_call _ _ _ l.invariant.2 (ap (set l.times l.i) (called w32 w.1 (time-small _ w.0) tt).is),
      all_turn _ _ l.invariant.3 w.0,
    )

pub returns : goal.returns
returns c =
    let l = c.loop-i in
    times-on _ l.i _ l.invariant.0 c.loop-i-test.false (search rules) l.invariant.2 l.invariant.3
