use Rattle.std.specs.Prelude.{refl}
use Rattle.std.specs.Float.Ieee.{of_bits}
use Rattle.arith.proofs.nan.Goals as goal

pub returns : goal.returns
unfolding of_bits
returns c = refl
