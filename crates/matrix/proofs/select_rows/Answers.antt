use Rattle.std.proofs.Common.{arith, rules}
use Rattle.columns.specs.Laws.{over_m_by}
use Rattle.matrix.specs.Matrix.{select_rows}
use Rattle.matrix.proofs.select_rows.Goals as goal

pub returns : goal.returns
unfolding select_rows
returns c = let w = c.write_entries.ensures in over_m_by _ _ _ _ _ (omega arith) w.length (λ i j p q. let e = w.written i j p q in search rules) w.kept
