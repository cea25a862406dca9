use Rattle.folds.specs.Kit.{ap, ◌∙◌}
use Rattle.format.specs.Read.{signed}
use Rattle.format.specs.Equations.{i32_at_by}
use Rattle.numbers.specs.Result.{result-is}
use Rattle.numbers.proofs.i32_at.Goals as goal

pub returns : goal.returns
returns c = result-is c.signed.type_inv (i32_at_by _ _ (c.signed.ensures ∙ ap (signed 2147483648) c.u32_at.ensures.0))
