use mathlib.Core.Path.{sym, ◌∙◌, ap}
use lib.Dec.{lit≤}
use lib.IntN.{◌-ℤ◌}
use mir.Syntax.{w64}
use mir.Val.{to_z, of_z}
use Rattle.ints.specs.Bound.{loose, pos_b}
use Rattle.ints.specs.Held.{Held, Cell, cell, called, read, fits-, less}
use Rattle.block.specs.Plan.{abs, sum_of}
use Rattle.block.specs.Laws.{anchor_miss-is}
use Rattle.block.specs.Fits.{sum_of-b}
use Rattle.format.specs.Structs.{list_of}
use Rattle.bounds.proofs.anchor_miss.Goals as goal
use Rattle.bounds.proofs.anchor_miss.Goals.{After-list_sum}

module _ (c : After-list_sum) where
  sum : Held w64 (of_z w64 c.list_sum.result) (sum_of (list_of c.args.a.list) c.args.times.now) 8388608
  sum = called w64 c.list_sum.ensures (sum_of-b c.requires.ranged_anchor.list c.requires.timed) tt

  value : Cell w64 c.args.a.value 8388608
  value = cell w64 (record { size = c.requires.ranged_anchor.value }) tt

  off : Held w64 (of_z w64 (to_z w64 (of_z w64 c.list_sum.result) -ℤ to_z w64 (of_z w64 c.args.a.value)))
      (sum_of (list_of c.args.a.list) c.args.times.now -ℤ c.args.a.value) 16777216
  off = less sum value tt

pub overflow_sub-list_sum : goal.overflow_sub-list_sum
overflow_sub-list_sum c = fits- (sum (goal.at.overflow_sub-list_sum c).After-list_sum) (value (goal.at.overflow_sub-list_sum c).After-list_sum) tt

pub abs-requires : goal.abs-requires
abs-requires c = loose (lit≤ tt) (read (off (goal.at.abs-requires c).After-list_sum))

pub returns : goal.returns
returns c =
    let o = off (goal.at.returns c).After-list_sum in
    (called w64 (c.abs.ensures ∙ ap abs o.is) (pos_b o.bound.size) tt).is ∙ sym (anchor_miss-is _ _)
