use Rattle.folds.specs.Kit.{arith, ◌∙◌}
use Rattle.sizes.specs.Sizes as Sizes
use Rattle.vector.specs.Laws.{take_zeros}
use Rattle.constraints.specs.Laws.{multipliers-from}
use lib.Seq.{length-take-le, take_at}
use Rattle.constraints.proofs.multipliers.Goals as goal

pub returns : goal.returns
returns c =
    let a = c.args.of.now in
    multipliers-from a.n a.m a.range.now a.coefficients.now a.pivots.now a.rank c.min-p.ensures c.args.g.now
    (take_zeros a.m Sizes.columns (omega arith)) c.tr_mul_vec-h.ensures c.backward.ensures
    (take_at _ _ _ (c.backward.auto.lambda ∙ length-take-le _ _ (omega arith)))
