use Rattle.std.proofs.Common.{arith, rules}
use Rattle.vector.specs.Vector.{copy}
use Rattle.vector.specs.Laws.{over_by}
use Rattle.vector.proofs.copy.Goals as goal

pub returns : goal.returns
unfolding copy
returns c = let w = c.write_each.ensures in over_by _ _ _ _ (omega arith) w.length (λ k h. let e = w.written k h in search rules) w.kept
