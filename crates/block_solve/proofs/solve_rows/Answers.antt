use Rattle.folds.specs.Kit.{sym, ◌∙◌}
use lib.Seq.{length-take-le}
use Rattle.format.specs.Structs.{block_of}
use Rattle.format.specs.Entries.{anchors-length, spans-length}
use Rattle.block_rows.specs.Rows.{anchor_values, span_lowers, span_uppers}
use Rattle.block_rows.specs.Laws.{length-anchor_values, length-span_lowers, length-span_uppers}
use Rattle.block_solve.specs.Laws.{gathered, Front, front, front_room, front_long, front_is}
use Rattle.block_solve.proofs.solve_rows.Goals as goal
use Rattle.block_solve.proofs.solve_rows.Goals.{After-span_uppers}

-- the lists, in the front of their arrays
module _ (c : After-span_uppers) where
  values : Front c.args.block.anchors c.anchor_values.new.y (anchor_values (block_of c.args.block))
  values = front c.anchor_values.ensures (length-anchor_values _ ∙ anchors-length c.requires.sound)

  lowers : Front c.args.block.spans c.span_lowers.new.y (span_lowers (block_of c.args.block))
  lowers = front c.span_lowers.ensures (length-span_lowers _ ∙ spans-length c.requires.sound)

  uppers : Front c.args.block.spans c.span_uppers.new.y (span_uppers (block_of c.args.block))
  uppers = front c.span_uppers.ensures (length-span_uppers _ ∙ spans-length c.requires.sound)

pub slice_bounds-b-end : goal.slice_bounds-b-end
slice_bounds-b-end c = c.requires.sound.anchors

pub slice_bounds-anchor_values-end : goal.slice_bounds-anchor_values-end
slice_bounds-anchor_values-end c = sym (length-take-le _ _ c.requires.sound.anchors)

pub anchor_values-requires : goal.anchor_values-requires
anchor_values-requires c = let p = c.requires in record { sound = p.sound; ranged = p.ranged; y_len = length-take-le _ _ p.sound.anchors }

pub slice_bounds-b-end-2 : goal.slice_bounds-b-end-2
slice_bounds-b-end-2 c = front_room (values (goal.at.slice_bounds-b-end-2 c).After-span_uppers) _

pub slice_bounds-engine-end : goal.slice_bounds-engine-end
slice_bounds-engine-end c = front_long (values (goal.at.slice_bounds-engine-end c).After-span_uppers) _

pub slice_bounds-row_lower-end : goal.slice_bounds-row_lower-end
slice_bounds-row_lower-end c = c.requires.sound.spans

pub slice_bounds-span_lowers-end : goal.slice_bounds-span_lowers-end
slice_bounds-span_lowers-end c = sym (length-take-le _ _ c.requires.sound.spans)

pub span_lowers-requires : goal.span_lowers-requires
span_lowers-requires c = let p = c.requires in record { sound = p.sound; ranged = p.ranged; y_len = length-take-le _ _ p.sound.spans }

pub slice_bounds-row_lower-end-2 : goal.slice_bounds-row_lower-end-2
slice_bounds-row_lower-end-2 c = front_room (lowers (goal.at.slice_bounds-row_lower-end-2 c).After-span_uppers) _

pub slice_bounds-engine-end-2 : goal.slice_bounds-engine-end-2
slice_bounds-engine-end-2 c = front_long (lowers (goal.at.slice_bounds-engine-end-2 c).After-span_uppers) _

pub slice_bounds-row_upper-end : goal.slice_bounds-row_upper-end
slice_bounds-row_upper-end c = c.requires.sound.spans

pub slice_bounds-span_uppers-end : goal.slice_bounds-span_uppers-end
slice_bounds-span_uppers-end c = sym (length-take-le _ _ c.requires.sound.spans)

pub span_uppers-requires : goal.span_uppers-requires
span_uppers-requires c = let p = c.requires in record { sound = p.sound; ranged = p.ranged; y_len = length-take-le _ _ p.sound.spans }

pub slice_bounds-row_upper-end-2 : goal.slice_bounds-row_upper-end-2
slice_bounds-row_upper-end-2 c = front_room (uppers (goal.at.slice_bounds-row_upper-end-2 c).After-span_uppers) _

pub slice_bounds-engine-end-3 : goal.slice_bounds-engine-end-3
slice_bounds-engine-end-3 c = front_long (uppers (goal.at.slice_bounds-engine-end-3 c).After-span_uppers) _

pub engine-requires : goal.engine-requires
engine-requires c =
    let u = (goal.at.engine-requires c).After-span_uppers in
    let p = c.requires in
    record {
      sound = p.sound;
      start_value = gathered p.sound p.matrices p.words (front_is (values u) _) (front_is (lowers u) _) (front_is (uppers u) _);
    }

pub returns : goal.returns
returns c = c.engine.ensures
