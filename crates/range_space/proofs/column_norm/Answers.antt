use Rattle.std.proofs.Common.{le_refl}
use Rattle.columns.specs.Laws.{length-column}
use Rattle.range_space.proofs.column_norm.Goals as goal

pub norm-requires : goal.norm-requires
norm-requires c = rw (c.column.ensures, length-column _ _ _) (le_refl _)
