use Rattle.std.proofs.lemmas.Result.{err_from_is_err_and}
use Rattle.folds.specs.Kit.{◌∙◌}
use Rattle.solution.specs.Laws.{rescaled-optimum, rescaled-refusal}
use Rattle.solution.proofs.rescaled.Goals as goal

pub returns : goal.returns
returns c = λ n. rw (c.in_ok-s.was, c.rescaled_multipliers-multipliers.ensures) (rescaled-optimum _ _ _ _ _)

pub returns-in_err-s : goal.returns-in_err-s
returns-in_err-s c = λ n.
    let p = err_from_is_err_and c.from_residual.result c.from_residual.ensures.1 in
    rw (p.1, p.2, c.in_err-s.was) (rescaled-refusal _ _ _ _)
