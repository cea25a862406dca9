use Rattle.folds.specs.Kit.{ap, ◌∙◌}
use Rattle.format.specs.Read.{signed}
use Rattle.format.specs.Equations.{i8_at_by}
use Rattle.numbers.specs.Result.{result-is}
use Rattle.numbers.proofs.i8_at.Goals as goal

pub returns : goal.returns
returns c = result-is c.signed.type_inv (i8_at_by _ _ (c.signed.ensures ∙ ap (signed 128) c.byte_at.ensures.0))
