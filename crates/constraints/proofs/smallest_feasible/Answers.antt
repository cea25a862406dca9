use Rattle.folds.specs.Kit.{◌≤◌, arith, ◌∙◌}
use Rattle.sizes.specs.Sizes as Sizes
use Rattle.vector.specs.Laws.{take_zeros}
use Rattle.constraints.specs.Laws.{smallest-from}
use lib.Seq.{length-take-le, take_at}
use Rattle.constraints.proofs.smallest_feasible.Goals as goal

pub returns : goal.returns
returns c =
    let a = c.args.of.now in
    let few : a.rank ≤ Sizes.columns = omega arith in
    smallest-from a.n a.m a.range.now a.coefficients.now a.pivots.now a.rank c.min-p.ensures c.args.b.now
    (take_zeros a.rank Sizes.columns few) c.forward.ensures
    (take_at _ _ _ (c.forward.auto.u ∙ length-take-le _ _ (omega arith))) c.mul_vec.ensures
