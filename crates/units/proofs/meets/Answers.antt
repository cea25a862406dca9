use Rattle.folds.specs.Kit.{pick}
use Rattle.units.specs.Units.{meets, residual, size}
use Rattle.units.proofs.meets.Goals as goal

pub returns-then-is_nan : goal.returns-then-is_nan
unfolding meets residual size pick
returns-then-is_nan c = rw (← c.sum_quotients.ensures, ← c.is_nan.ensures, c.if-is_nan.true)

pub returns-then-abs-size : goal.returns-then-abs-size
unfolding meets residual size pick
returns-then-abs-size c =
    rw (
      ← c.sum_quotients.ensures,
      ← c.is_nan.ensures,
      c.if-is_nan.false,
      ← c.sum_sizes.ensures,
      ← c.abs.ensures,
      ← c.abs-2.ensures,
      c.if-abs-size.true,
    )

pub returns : goal.returns
unfolding meets residual size pick
returns c =
    rw (
      ← c.sum_quotients.ensures,
      ← c.is_nan.ensures,
      c.if-is_nan.false,
      ← c.sum_sizes.ensures,
      ← c.abs.ensures,
      ← c.abs-2.ensures,
      c.if-abs-size.false,
    )
