use Rattle.numbers.specs.Result.{result-is}
use Rattle.bodies.proofs.anchor_from.Goals as goal

pub returns : goal.returns
returns c = (rw (result-is c.i32_at-value.type_inv c.i32_at-value.ensures, c.list_from-list.ensures.0), c.list_from-list.ensures.1)
