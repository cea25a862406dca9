use Rattle.std.proofs.Common.{arith, rules}
use Rattle.std.proofs.Math.ListN.{replicate}
use Rattle.folds.specs.Kit.{taken-tab}
use Rattle.arith.specs.Float.{f0}
use Rattle.sizes.specs.Sizes as Sizes
use Rattle.vector.specs.Laws.{over_by}
use Rattle.range_space.specs.Factored.{lengths}
use Rattle.range_space.proofs.lengths.Goals as goal

pub returns : goal.returns
unfolding lengths
returns c =
    let w = c.write_each.ensures in
    taken-tab c.args.m _ (replicate Sizes.columns f0)
    (over_by c.args.m _ c.write_each.new.y (replicate Sizes.columns f0) (omega arith) w.length (λ k h. let e = w.written k h in search rules) w.kept)
