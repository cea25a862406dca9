use Rattle.arith.specs.Middle.{middle-is}
use Rattle.bracket.specs.Bracket.{halve}
use Rattle.bracket.proofs.Bracket.halve.Goals as goal

pub returns : goal.returns
unfolding halve
returns c = rw (← middle-is c.args.self.low c.args.self.high)
