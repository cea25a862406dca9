use Rattle.std.proofs.Common.{arith, rules}
use Rattle.vector.specs.Vector.{divided}
use Rattle.vector.specs.Laws.{over_by}
use Rattle.vector.proofs.divide.Goals as goal

pub returns : goal.returns
unfolding divided
returns c = let w = c.write_each.ensures in over_by _ _ _ _ (omega arith) w.length (λ k h. let e = w.written k h in search rules) w.kept
