use Rattle.folds.specs.Kit.{sym, arith}
use lib.Seq.{length-take-le}
use Rattle.reduced.specs.Reduced.{gradient}
use Rattle.reduced.proofs.gradient.Goals as goal

pub slice_bounds-sub-end : goal.slice_bounds-sub-end
slice_bounds-sub-end c = sym (length-take-le _ _ (omega arith))

pub sub-requires : goal.sub-requires
sub-requires c = (omega arith, omega arith, omega (arith, slice_bounds-sub-end c))

pub returns : goal.returns
unfolding gradient
returns c = rw (c.sub.ensures, c.mul_vec-kx.ensures)
