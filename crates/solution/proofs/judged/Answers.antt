use Rattle.folds.specs.Kit.{pick}
use Rattle.solution.specs.Solution.{judge, judged}
use Rattle.solution.proofs.judged.Goals as goal

pub returns-in-None : goal.returns-in-None
unfolding judge judged
returns-in-None c = rw (← c.kkt_residual-residual.ensures, ← c.within_rounding.ensures, c.in-None.is)

pub returns-in-Some-false : goal.returns-in-Some-false
unfolding judge judged
returns-in-Some-false c =
    rw (
      ← c.kkt_residual-residual.ensures,
      ← c.within_rounding.ensures,
      c.in-Some-false.is,
      c.in-Some-false.field-0-test,
    )

pub returns-then-not-all_finite : goal.returns-then-not-all_finite
unfolding judge judged pick
returns-then-not-all_finite c =
    rw (
      ← c.kkt_residual-residual.ensures,
      ← c.within_rounding.ensures,
      c.in-Some-true.is,
      c.in-Some-true.field-0-test,
      ← c.all_finite.ensures,
      c.if-not-all_finite.true,
    )

pub returns : goal.returns
unfolding judge judged pick
returns c =
    rw (
      ← c.kkt_residual-residual.ensures,
      ← c.within_rounding.ensures,
      c.in-Some-true.is,
      c.in-Some-true.field-0-test,
      ← c.all_finite.ensures,
      c.if-not-all_finite.false,
    )
