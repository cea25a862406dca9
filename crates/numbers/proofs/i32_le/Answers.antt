use mathlib.Core.Path.{ap₂}
use lib.Signed.{le_z}
use Rattle.numbers.specs.Result.{result-is}
use Rattle.numbers.proofs.i32_le.Goals as goal

pub returns : goal.returns
returns c = ap₂ le_z (result-is c.i32_at.type_inv c.i32_at.ensures) (result-is c.i32_at-2.type_inv c.i32_at-2.ensures)
