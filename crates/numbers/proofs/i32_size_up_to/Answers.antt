use Rattle.folds.specs.Kit.{ap, ◌∙◌}
use Rattle.format.specs.Read.{size_up_to}
use Rattle.numbers.specs.Result.{result-is}
use Rattle.numbers.proofs.i32_size_up_to.Goals as goal

pub returns : goal.returns
returns c = c.size_up_to.ensures ∙ ap (size_up_to c.args.most) (result-is c.i32_at.type_inv c.i32_at.ensures)
