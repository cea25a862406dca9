use Rattle.std.proofs.Common.{arith, rules}
use Rattle.vector.specs.Laws.{over_by}
use Rattle.matrix.specs.Matrix.{mul_vec}
use Rattle.matrix.proofs.mul_vec.Goals as goal

pub returns : goal.returns
unfolding mul_vec
returns c = let w = c.write_each.ensures in over_by _ _ _ _ (omega arith) w.length (λ k h. let e = w.written k h in search rules) w.kept
