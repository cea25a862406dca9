use Rattle.folds.specs.Kit.{ap, ◌∙◌}
use Rattle.format.specs.Read.{is_zero}
use Rattle.numbers.specs.Result.{result-is}
use Rattle.numbers.proofs.i8_is_zero.Goals as goal

pub returns : goal.returns
returns c = c.is_zero.ensures ∙ ap is_zero (result-is c.i8_at.type_inv c.i8_at.ensures)
