use Rattle.std.proofs.Common.{◌∙◌}
use Rattle.arith.proofs.Cases.{signum-same}
use Rattle.arith.proofs.signum.Goals as goal

pub returns : goal.returns
returns c = c.signum.ensures ∙ signum-same c.args.x
