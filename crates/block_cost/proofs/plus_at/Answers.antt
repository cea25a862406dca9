use Rattle.std.proofs.Common.{rules}
use Rattle.block_cost.specs.Cost.{plus_at}
use Rattle.block_cost.proofs.plus_at.Goals as goal

pub returns : goal.returns
unfolding plus_at
returns c = search rules
