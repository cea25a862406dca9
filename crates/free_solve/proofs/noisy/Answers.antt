use Rattle.std.specs.Prelude.{length}
use Rattle.std.proofs.lemmas.Result.{err_from_is_err_and}
use Rattle.folds.specs.Kit.{◌≡◌, ◌∙◌, arith}
use lib.ListN.{take}
use lib.Seq.{length-take-le}
use Rattle.folds.specs.Tab.{taken-over}
use Rattle.vector.specs.Laws.{length-copy, copy-all}
use Rattle.free_solve.proofs.noisy.Goals as goal

pub returns-in_err-solution : goal.returns-in_err-solution
returns-in_err-solution c =
    let p = err_from_is_err_and c.from_residual.result c.from_residual.ensures.1 in
    rw (p.1, p.2) (rw c.in_err-solution.was at c.solve_noisy_kkt-answer.ensures)

pub returns : goal.returns
returns c =
    rw (
      taken-over _ _ (length-copy _ _) c.copy.ensures ∙ copy-all _ _ (length-take-le _ _ (omega arith)),
      taken-over _ _ (length-copy _ _) c.copy-2.ensures ∙ copy-all _ _ (length-take-le _ _ (omega arith)),
    ) (rw c.in_ok-solution.was at c.solve_noisy_kkt-answer.ensures)
