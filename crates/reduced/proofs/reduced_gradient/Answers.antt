use Rattle.folds.specs.Kit.{sym, arith}
use lib.Seq.{length-take-le}
use Rattle.reduced.specs.Reduced.{reduced_gradient}
use Rattle.reduced.proofs.reduced_gradient.Goals as goal

pub slice_bounds-tr_mul_vec-end : goal.slice_bounds-tr_mul_vec-end
slice_bounds-tr_mul_vec-end c = sym (length-take-le _ _ (omega arith))

pub tr_mul_vec-requires : goal.tr_mul_vec-requires
tr_mul_vec-requires c = (omega arith, omega arith, omega (arith, slice_bounds-tr_mul_vec-end c))

pub returns : goal.returns
unfolding reduced_gradient
returns c = rw (c.tr_mul_vec.ensures, c.gradient-g.ensures)
