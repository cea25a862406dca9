use Rattle.folds.specs.Kit.{pick}
use Rattle.scaled.specs.Scaled.{average, k_scale}
use Rattle.scaled.proofs.k_scale.Goals as goal
use Rattle.scaled.proofs.k_scale.Goals.{else-is_finite-via-then-is_finite+else-average-2, else-is_finite-via-else-is_finite}

pub returns-then-average : goal.returns-then-average
unfolding k_scale average pick
returns-then-average c = rw (← c.trace.ensures, ← c.nearest_usize_to_f64.ensures, c.if-average.true)

pub returns-then-average-2 : goal.returns-then-average-2
unfolding k_scale average pick
returns-then-average-2 c =
    rw (
      ← c.trace.ensures,
      ← c.nearest_usize_to_f64.ensures,
      c.if-average.false,
      ← c.is_finite.ensures,
      c.if-is_finite.true,
      c.if-average-2.true,
    )

pub returns : goal.returns
unfolding k_scale average pick
returns c =
    rw (← c.trace.ensures, ← c.nearest_usize_to_f64.ensures, c.if-average.false, ← c.is_finite.ensures)
    (elim c.else-is_finite.branch [
      | else-is_finite-via-then-is_finite+else-average-2 w ↦ rw (w.if-is_finite.true, w.if-average-2.false)
      | else-is_finite-via-else-is_finite w ↦ rw w.if-is_finite.false
    ])
