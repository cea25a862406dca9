use Rattle.folds.specs.Kit.{sym, arith}
use lib.Seq.{length-take-le}
use Rattle.householder.proofs.reflect_rest.Goals as goal

pub slice_bounds-reflect_in-end : goal.slice_bounds-reflect_in-end
slice_bounds-reflect_in-end c = sym (length-take-le _ _ (omega arith))

pub reflect_in-requires : goal.reflect_in-requires
reflect_in-requires c = omega (arith, slice_bounds-reflect_in-end c)
