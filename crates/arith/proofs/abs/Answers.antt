use Rattle.std.proofs.Common.{◌∙◌}
use Rattle.arith.specs.Methods.{abs-same}
use Rattle.arith.proofs.abs.Goals as goal

pub returns : goal.returns
returns c = c.abs.ensures.value ∙ abs-same c.args.x
