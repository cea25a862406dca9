use Rattle.folds.specs.Kit.{sym}
use Rattle.std.proofs.lemmas.Result.{err_from_is_err_and}
use Rattle.service.specs.Code.{file-refused, file-placed}
use Rattle.service.proofs.placed.Goals as goal

pub returns-in_err-b : goal.returns-in_err-b
returns-in_err-b c =
    let e = err_from_is_err_and c.from_residual.result c.from_residual.ensures.1 in
    rw (e.1, e.2) (file-refused _ _ _ c.in_err-b.ensures.result_value)

pub returns : goal.returns
returns c = let e = c.in_ok-b.ensures in file-placed _ _ e.sound (sym e.result_value) _ c.place_block.ensures
