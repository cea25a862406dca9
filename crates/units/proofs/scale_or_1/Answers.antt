use Rattle.folds.specs.Kit.{pick}
use Rattle.units.specs.Units.{scale_or1}
use Rattle.units.proofs.scale_or_1.Goals as goal

pub returns-then-s : goal.returns-then-s
unfolding scale_or1 pick
returns-then-s c = rw (← c.is_finite.ensures, c.if-is_finite.true, c.if-s.true)

pub returns-else-s : goal.returns-else-s
unfolding scale_or1 pick
returns-else-s c = rw (← c.is_finite.ensures, c.if-is_finite.true, c.if-s.false)

pub returns-else-is_finite : goal.returns-else-is_finite
unfolding scale_or1 pick
returns-else-is_finite c = rw (← c.is_finite.ensures, c.if-is_finite.false)
