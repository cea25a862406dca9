use mir.Syntax.{w64}
use mir.Val.{of_z}
use Rattle.ints.specs.Held.{Held, Cell, cell, called, fits-, less}
use Rattle.block.specs.Plan.{sum_of}
use Rattle.block.specs.Fits.{sum_of-b}
use Rattle.format.specs.Structs.{list_of}
use Rattle.exact.proofs.off.Goals as goal
use Rattle.exact.proofs.off.Goals.{After-list_sum}

module _ (c : After-list_sum) where
  sum : Held w64 (of_z w64 c.list_sum.result) (sum_of (list_of c.args.t.list) c.args.times.now) 8388608
  sum = called w64 c.list_sum.ensures (sum_of-b c.requires.ranged_tempo.list c.requires.timed) tt

  aim : Cell w64 c.args.t.target 8388608
  aim = cell w64 (record { size = c.requires.ranged_tempo.target }) tt

pub overflow_sub-result : goal.overflow_sub-result
overflow_sub-result c = fits- (sum (goal.at.overflow_sub-result c).After-list_sum) (aim (goal.at.overflow_sub-result c).After-list_sum) tt

pub returns : goal.returns
returns c = (less (sum (goal.at.returns c).After-list_sum) (aim (goal.at.returns c).After-list_sum) tt).is
