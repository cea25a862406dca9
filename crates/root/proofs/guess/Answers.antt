-- `root::guess` meets its contract: its floats are no NaN where their bits are taken.
use Rattle.root.proofs.Settle.{start_no_nan}
use Rattle.root.proofs.Cases.{no_nan}
use Rattle.root.proofs.guess.Goals as goal

pub float_from_bits-x : goal.float_from_bits-x
float_from_bits-x c = start_no_nan c.args.m c.args.k c.requires.0 c.requires.1

pub float_to_bits-result : goal.float_to_bits-result
float_to_bits-result c = no_nan _ c.if-r.true
