use Rattle.std.proofs.Common.{◌∙◌}
use Rattle.arith.specs.Methods.{infinite-same}
use Rattle.arith.proofs.is_infinite.Goals as goal

pub returns : goal.returns
returns c = c.is_infinite.ensures.value ∙ infinite-same c.args.x
