use Rattle.folds.specs.Kit.{pick}
use Rattle.scaled.specs.Scaled.{within_rounding}
use Rattle.scaled.proofs.within_rounding.Goals as goal
use Rattle.scaled.proofs.within_rounding.Goals.{then-not-is_finite-via-then-not-is_finite, then-not-is_finite-via-else-not-is_finite+then-not-is_finite-2}

pub returns-then-not-is_finite : goal.returns-then-not-is_finite
unfolding within_rounding pick
returns-then-not-is_finite c =
    elim c.then-not-is_finite.branch [
      | then-not-is_finite-via-then-not-is_finite w ↦ rw (← c.is_finite.ensures, w.if-not-is_finite.true)
      | then-not-is_finite-via-else-not-is_finite+then-not-is_finite-2 w ↦
          rw (
            ← c.is_finite.ensures,
            w.if-not-is_finite.false,
            ← w.is_finite-else-not-is_finite.ensures,
            w.if-not-is_finite-2.true,
          )
    ]

pub returns : goal.returns
unfolding within_rounding pick
returns c =
    rw (
      ← c.is_finite.ensures,
      c.if-not-is_finite.false,
      ← c.is_finite-else-not-is_finite.ensures,
      c.if-not-is_finite-2.false,
    )
