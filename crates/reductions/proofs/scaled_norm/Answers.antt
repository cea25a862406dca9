use Rattle.folds.specs.Kit.{pick}
use Rattle.arith.specs.Methods.{infinite-same}
use Rattle.reductions.specs.Reductions.{scaled_norm}
use Rattle.reductions.proofs.scaled_norm.Goals as goal

pub returns-then-any_nan : goal.returns-then-any_nan
unfolding scaled_norm pick
returns-then-any_nan c = rw (← c.any_nan.ensures, c.if-any_nan.true) c.nan.ensures

pub returns-then-largest : goal.returns-then-largest
unfolding scaled_norm pick
returns-then-largest c = rw (← c.any_nan.ensures, c.if-any_nan.false, ← c.amax-largest.ensures, c.if-largest.true)

pub returns-then-is_infinite : goal.returns-then-is_infinite
unfolding scaled_norm pick
returns-then-is_infinite c =
    rw (
      ← c.any_nan.ensures,
      c.if-any_nan.false,
      ← c.amax-largest.ensures,
      c.if-largest.false,
      ← infinite-same,
      ← c.is_infinite.ensures.value,
      c.if-is_infinite.true,
    )

pub returns : goal.returns
unfolding scaled_norm pick
returns c =
    rw (
      ← c.any_nan.ensures,
      c.if-any_nan.false,
      ← c.amax-largest.ensures,
      c.if-largest.false,
      ← infinite-same,
      ← c.is_infinite.ensures.value,
      c.if-is_infinite.false,
      c.sqrt.ensures,
      c.quotient_squares.ensures,
    )
