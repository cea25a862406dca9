use Rattle.folds.specs.Kit.{◌<◌, arith}
use Rattle.segments.specs.Segments.{last}
use Rattle.segments.specs.Laws.{free-same, free-within}
use Rattle.blocking.specs.Laws.{end_within}
use Rattle.blocking.specs.Blocking.{block}
use Rattle.blocking.proofs.block.Goals as goal
use Rattle.blocking.proofs.block.Goals.{After-segment_of}

-- the segment lies between two points
within : (c : After-segment_of) → c.segment_of.result < last c.args.s
within c = free-within c.args.s _ c.segment_of.result c.segment_of.ensures c.requires.3

pub end_point-point-requires : goal.end_point-point-requires
unfolding block
end_point-point-requires c = omega (arith, within c)

pub point-requires : goal.point-requires
unfolding block
point-requires c =
    let j = (goal.at.point-requires c).After-segment_of in
    (c.requires.1, rw c.end_point-point.ensures (end_within _ _ _ (within j)))

pub returns : goal.returns
unfolding block
returns c =
    λ j e. let q = free-same _ _ _ c.segment_of.ensures e in
    rw (c.refusals-marked.ensures, c.point.ensures, c.end_point-point.ensures, q)
