use mathlib.Core.Path.{ap}
use mir.Syntax.{w64}
use Rattle.ints.specs.Held.{cell, read}
use Rattle.nearest.specs.Value.{fromℤ}
use Rattle.block_floats.specs.Entries.{in_float_lem}
use Rattle.block_floats.proofs.whole.Goals as goal

pub int_to_float-result : goal.int_to_float-result
int_to_float-result c = in_float_lem _ (read (cell w64 c.requires tt))

pub returns : goal.returns
returns c = ap fromℤ (cell w64 c.requires tt).is
