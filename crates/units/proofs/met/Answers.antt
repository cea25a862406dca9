use Rattle.folds.specs.Kit.{sym, arith}
use lib.Seq.{length-take-le}
use Rattle.units.specs.Units.{met}
use Rattle.units.proofs.met.Goals as goal

pub slice_bounds-column_met-end : goal.slice_bounds-column_met-end
unfolding met
slice_bounds-column_met-end c = sym (length-take-le _ _ (omega arith))

pub column_met-requires : goal.column_met-requires
unfolding met
column_met-requires c =
    let a = c.args in
    omega (arith, length-take-le a.n c.terms-terms.result (omega arith))

pub returns : goal.returns
unfolding met
returns c = rw (c.column_met.ensures, c.terms-terms.ensures)
