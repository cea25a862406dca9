use Rattle.folds.specs.Kit.{pick}
use Rattle.units.specs.Units.{column_met, largest_of}
use Rattle.units.proofs.column_met.Goals as goal

pub returns-then-largest : goal.returns-then-largest
unfolding column_met largest_of pick
returns-then-largest c =
    rw (
      ← c.amax.ensures,
      ← c.abs.ensures,
      ← c.max-largest.ensures,
      ← c.is_finite.ensures,
      c.if-is_finite.true,
      c.if-largest.true,
    )

pub returns-then-is_finite : goal.returns-then-is_finite
unfolding column_met largest_of pick
returns-then-is_finite c =
    rw (
      ← c.amax.ensures,
      ← c.abs.ensures,
      ← c.max-largest.ensures,
      ← c.is_finite.ensures,
      c.if-is_finite.true,
      c.if-largest.false,
    ) c.meets.ensures

pub returns : goal.returns
unfolding column_met largest_of pick
returns c =
    rw (
      ← c.amax.ensures,
      ← c.abs.ensures,
      ← c.max-largest.ensures,
      ← c.is_finite.ensures,
      c.if-is_finite.false,
    )
