use Rattle.std.proofs.Common.{arith}
use Rattle.columns.specs.Laws.{length-column}
use Rattle.columns.proofs.column_amax.Goals as goal

pub amax-requires : goal.amax-requires
amax-requires c = rw (c.column.ensures, length-column) (omega arith)

pub returns : goal.returns
returns c = rw (← c.column.ensures) c.amax.ensures
