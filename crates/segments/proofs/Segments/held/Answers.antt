use Rattle.folds.specs.Kit.{pick}
use Rattle.segments.specs.Start.{held}
use Rattle.segments.proofs.Segments.held.Goals as goal

pub returns-then-fixed : goal.returns-then-fixed
unfolding held pick
returns-then-fixed c = rw (← c.fixed.ensures, c.if-fixed.true, ← c.point.ensures)

pub returns : goal.returns
unfolding held pick
returns c =
    rw (
      ← c.fixed.ensures,
      c.if-fixed.false,
      ← c.point-2.ensures,
      ← c.last.ensures,
      ← c.point-3.ensures,
      c.clamp.ensures,
    )
