use Rattle.folds.specs.Kit.{sym, ◌∙◌, arith, rules}
use lib.Seq.{length-take-le}
use Rattle.turnover.specs.Turnover.{turnover}
use Rattle.turnover.proofs.turnover.Goals as goal

pub slice_bounds-total_abs-end : goal.slice_bounds-total_abs-end
slice_bounds-total_abs-end c = sym (length-take-le _ _ (omega arith))

pub returns : goal.returns
unfolding turnover
returns c = c.total_abs.ensures ∙ rw c.sub-moves.ensures

pub total_abs-requires : goal.total_abs-requires
total_abs-requires c = omega (arith, slice_bounds-total_abs-end c)
