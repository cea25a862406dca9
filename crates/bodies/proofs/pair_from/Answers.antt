use Rattle.numbers.specs.Result.{result-is}
use Rattle.bodies.proofs.pair_from.Goals as goal

pub returns : goal.returns
returns c = rw (c.byte_at-word.ensures.0, result-is c.i8_at-coef.type_inv c.i8_at-coef.ensures)
