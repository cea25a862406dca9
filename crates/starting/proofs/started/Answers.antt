use mathlib.Core.Path.{sym}
use borrow.Author.Rules.{rules}
use native.Mathlib.Omega.{arith}
use lib.Seq.{length-take-le}
use Rattle.starting.specs.Starting.{started}
use Rattle.starting.proofs.started.Goals as goal

pub slice_bounds-all_placed-end : goal.slice_bounds-all_placed-end
slice_bounds-all_placed-end c = sym (length-take-le _ _ (omega arith))

pub returns : goal.returns
unfolding started
returns c = rw (c.all_placed-state.ensures.value, c.all_held-x.ensures)

pub all_placed-state-requires : goal.all_placed-state-requires
all_placed-state-requires c = (search rules, omega (arith, slice_bounds-all_placed-end c), c.requires.2)
