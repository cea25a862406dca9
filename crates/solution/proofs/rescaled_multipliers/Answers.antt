use Rattle.std.proofs.Common.{arith, rules}
use Rattle.std.proofs.Math.ListN.{replicate}
use Rattle.folds.specs.Tab.{taken-over}
use Rattle.arith.specs.Float.{f0, fmul, fdiv, at}
use Rattle.sizes.specs.Sizes as Sizes
use Rattle.vector.specs.Laws.{over_by}
use Rattle.solution.specs.Laws.{length-rescaled_multipliers}
use Rattle.solution.specs.Solution.{rescaled_multipliers}
use Rattle.solution.proofs.rescaled_multipliers.Goals as goal

pub returns : goal.returns
unfolding rescaled_multipliers
returns c =
    let w = c.write_each.ensures in
    let a = c.args in
    taken-over a.m (replicate Sizes.columns f0) (length-rescaled_multipliers a.m a.multipliers.now a.scale a.columns.now)
    (over_by a.m _ c.write_each.new.y (replicate Sizes.columns f0) (omega arith) w.length (λ k h. let e = w.written k h in search rules) w.kept)
