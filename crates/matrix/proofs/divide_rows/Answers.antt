use Rattle.std.proofs.Common.{arith, rules}
use Rattle.columns.specs.Laws.{over_m_by}
use Rattle.matrix.specs.Matrix.{rows_divided}
use Rattle.matrix.proofs.divide_rows.Goals as goal

pub returns : goal.returns
unfolding rows_divided
returns c = let w = c.write_entries.ensures in over_m_by _ _ _ _ _ (omega arith) w.length (λ i j p q. let e = w.written i j p q in search rules) w.kept
