use Rattle.folds.specs.Kit.{sym, arith}
use lib.Seq.{length-take-le}
use Rattle.reduced.specs.Reduced.{moved}
use Rattle.reduced.proofs.moved.Goals as goal

pub slice_bounds-add-end : goal.slice_bounds-add-end
slice_bounds-add-end c = sym (length-take-le _ _ (omega arith))

pub add-requires : goal.add-requires
add-requires c = (omega arith, omega arith, omega (arith, slice_bounds-add-end c))

pub returns : goal.returns
unfolding moved
returns c = rw (c.add.ensures, c.mul_vec-zv.ensures)
