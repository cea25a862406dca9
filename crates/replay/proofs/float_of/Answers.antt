use lib.Ieee.{binary64}
use lib.Ieee.Bits.{nan_bits_above}
use Rattle.std.proofs.Common.{le-ltb}
use Rattle.replay.proofs.float_of.Goals as goal

pub float_from_bits-result : goal.float_from_bits-result
float_from_bits-result c = rw (nan_bits_above binary64 c.args.b, le-ltb _ _ c.if-b-gt9218868437227405312.false) tt
