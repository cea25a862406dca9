use Rattle.std.proofs.lemmas.Result.{err_from_is_err_and}
use Rattle.folds.specs.Kit.{refl}
use Rattle.placement.specs.Held.{Leaves}
use Rattle.placement.proofs.write.Goals as goal

pub write_answer-requires : goal.write_answer-requires
write_answer-requires c = let h = rw c.in_ok-p.was at c.requires in record { sound = h.0; sized = h.1 }

pub returns : goal.returns
returns c = rw c.in_ok-p.was c.write_answer.ensures

pub returns-in_err-p : goal.returns-in_err-p
returns-in_err-p c =
    let p = err_from_is_err_and c.from_residual.result c.from_residual.ensures.1 in rw (p.1, p.2, c.in_err-p.was) (refl, refl)
