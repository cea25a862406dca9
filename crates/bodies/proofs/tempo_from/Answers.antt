use Rattle.numbers.specs.Result.{result-is}
use Rattle.bodies.proofs.tempo_from.Goals as goal

pub returns : goal.returns
returns c =
    let target = c.i32_at-target in
    (rw (c.u16_at-weight.ensures.0, result-is target.type_inv target.ensures, c.list_from-list.ensures.0), c.list_from-list.ensures.1)
