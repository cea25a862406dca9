use Rattle.std.proofs.Common.{arith, rules}
use Rattle.vector.specs.Laws.{over_by}
use Rattle.units.specs.Units.{scales_or1}
use Rattle.units.proofs.scales_or_1.Goals as goal

pub returns : goal.returns
unfolding scales_or1
returns c =
    let w = c.write_each.ensures in over_by _ _ _ _ (omega arith) w.length (λ k h. let e = w.written k h in search rules) w.kept
