use Rattle.std.proofs.lemmas.Result.{err_from_is_err_and}
use Rattle.folds.specs.Kit.{refl}
use Rattle.minimum.specs.Capped.{capped_of}
use Rattle.search_step.specs.Step.{ended_of, accepted}
use Rattle.search_step.proofs.accepted.Goals as goal

pub returns : goal.returns
unfolding capped_of ended_of accepted
returns c n w = rw c.in_ok-bracket.was refl

pub returns-in_err-bracket : goal.returns-in_err-bracket
unfolding capped_of ended_of accepted
returns-in_err-bracket c n w =
    let p = err_from_is_err_and c.from_residual.result c.from_residual.ensures.1 in rw (p.1, p.2, c.in_err-bracket.was) refl
