use Rattle.std.proofs.Common.{◌∙◌}
use Rattle.arith.specs.Methods.{finite-same}
use Rattle.arith.proofs.is_finite.Goals as goal

pub returns : goal.returns
returns c = c.is_finite.ensures.value ∙ finite-same c.args.x
