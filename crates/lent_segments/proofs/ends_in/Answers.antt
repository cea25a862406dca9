use Rattle.folds.specs.Kit.{◌<◌, arith, kit}
use Rattle.segments.specs.Segments.{last}
use Rattle.segments.specs.Laws.{free-within}
use Rattle.lent_segments.specs.Lent.{segment_of, segment_in}
use Rattle.lent_segments.proofs.ends_in.Goals as goal
use Rattle.lent_segments.proofs.ends_in.Goals.{After-segment_of-j}

-- the segment is one of the record's
within : (c : After-segment_of-j) → c.segment_of-j.result < last c.args.s
within c = free-within c.args.s _ c.segment_of-j.result c.segment_of-j.ensures c.requires.placed

pub returns : goal.returns
unfolding segment_of segment_in
returns c =
    rw (c.segment_of-j.ensures, c.point.ensures, c.point-2.ensures, c.slope.ensures)

pub point-requires : goal.point-requires
point-requires c = (c.requires.cut, omega (arith, within c))

pub overflow_add-j : goal.overflow_add-j
overflow_add-j c = let p = c.requires.cut in let h = within (goal.at.overflow_add-j c).After-segment_of-j in search kit

pub point-requires-2 : goal.point-requires-2
point-requires-2 c = (c.requires.cut, omega (arith, within (goal.at.point-requires-2 c).After-segment_of-j))

pub slope-requires : goal.slope-requires
slope-requires c = (c.requires.cut, within (goal.at.slope-requires c).After-segment_of-j)
