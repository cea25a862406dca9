use Rattle.numbers.specs.Result.{result-is}
use Rattle.bodies.proofs.span_from.Goals as goal

pub returns : goal.returns
returns c =
    let lower = c.i32_at-lower in
    let upper = c.i32_at-upper in
    (rw (result-is lower.type_inv lower.ensures, result-is upper.type_inv upper.ensures, c.list_from-list.ensures.0), c.list_from-list.ensures.1)
