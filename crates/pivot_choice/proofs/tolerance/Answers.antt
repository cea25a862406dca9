use Rattle.pivot_choice.specs.PivotChoice.{tolerance}
use Rattle.pivot_choice.proofs.tolerance.Goals as goal

pub returns : goal.returns
unfolding tolerance
returns c = rw (c.largest_norm.ensures, c.from_usize.ensures, c.max.ensures)
