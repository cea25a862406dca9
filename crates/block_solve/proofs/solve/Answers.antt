use Rattle.folds.specs.Kit.{sym, ◌∙◌, ◌*◌, ◌≤◌}
use mathlib.Core.Path.{ap₂}
use lib.Dec.{lit≤}
use lib.Seq.{length-take-le}
use native.Mathlib.Nat.{lt_of_le_of_lt}
use Rattle.folds.specs.Cell.{area}
use Rattle.format.specs.Structs.{block_of}
use Rattle.format.specs.Entries.{words-length, anchors-length, spans-length}
use Rattle.block_cost.specs.Cost.{hessian}
use Rattle.block_cost.specs.Laws.{length-hessian}
use Rattle.block_rows.specs.Rows.{anchor_columns, span_columns}
use Rattle.block_rows.specs.Laws.{length-anchor_columns, length-span_columns}
use Rattle.block_solve.specs.Laws.{Front, front, front_room, front_long, front_is}
use Rattle.block_solve.proofs.solve.Goals as goal
use Rattle.block_solve.proofs.solve.Goals.{After-span_columns, Start}

-- each matrix fits its array
module _ (c : Start) where
  q_room : c.args.block.words * c.args.block.words ≤ 1024
  q_room = area c.requires.sound.words c.requires.sound.words

  e-room : c.args.block.words * c.args.block.anchors ≤ 256
  e-room = area c.requires.sound.words c.requires.sound.anchors

  a-room : c.args.block.words * c.args.block.spans ≤ 512
  a-room = area c.requires.sound.words c.requires.sound.spans

-- and stands in its front
module _ (c : After-span_columns) where
  q : Front (c.args.block.words * c.args.block.words) c.hessian.new.q (hessian (block_of c.args.block))
  q = front c.hessian.ensures (length-hessian _ ∙ ap₂ ◌*◌ (words-length c.requires.sound) (words-length c.requires.sound))

  e : Front (c.args.block.words * c.args.block.anchors) c.anchor_columns.new.e (anchor_columns (block_of c.args.block))
  e = front c.anchor_columns.ensures (length-anchor_columns _ ∙ ap₂ ◌*◌ (words-length c.requires.sound) (anchors-length c.requires.sound))

  a : Front (c.args.block.words * c.args.block.spans) c.span_columns.new.a (span_columns (block_of c.args.block))
  a = front c.span_columns.ensures (length-span_columns _ ∙ ap₂ ◌*◌ (words-length c.requires.sound) (spans-length c.requires.sound))

pub overflow_mul-square : goal.overflow_mul-square
overflow_mul-square c = record { fits = lt_of_le_of_lt (q_room (goal.at.overflow_mul-square c).Start) (lit≤ tt) }

pub overflow_mul-anchors : goal.overflow_mul-anchors
overflow_mul-anchors c = record { fits = lt_of_le_of_lt (e-room (goal.at.overflow_mul-anchors c).Start) (lit≤ tt) }

pub overflow_mul-spans : goal.overflow_mul-spans
overflow_mul-spans c = record { fits = lt_of_le_of_lt (a-room (goal.at.overflow_mul-spans c).Start) (lit≤ tt) }

pub slice_bounds-q-end : goal.slice_bounds-q-end
slice_bounds-q-end c = q_room (goal.at.slice_bounds-q-end c).Start

pub slice_bounds-hessian-end : goal.slice_bounds-hessian-end
slice_bounds-hessian-end c = sym (length-take-le _ _ (q_room (goal.at.slice_bounds-hessian-end c).Start))

pub hessian-requires : goal.hessian-requires
hessian-requires c = record { sound = c.requires.sound; ranged = c.requires.ranged; q_len = length-take-le _ _ (q_room (goal.at.hessian-requires c).Start) }

pub slice_bounds-q-end-2 : goal.slice_bounds-q-end-2
slice_bounds-q-end-2 c = front_room (q (goal.at.slice_bounds-q-end-2 c).After-span_columns) _

pub slice_bounds-e-end : goal.slice_bounds-e-end
slice_bounds-e-end c = e-room (goal.at.slice_bounds-e-end c).Start

pub slice_bounds-anchor_columns-end : goal.slice_bounds-anchor_columns-end
slice_bounds-anchor_columns-end c = sym (length-take-le _ _ (e-room (goal.at.slice_bounds-anchor_columns-end c).Start))

pub anchor_columns-requires : goal.anchor_columns-requires
anchor_columns-requires c = record { sound = c.requires.sound; ranged = c.requires.ranged; e_len = length-take-le _ _ (e-room (goal.at.anchor_columns-requires c).Start) }

pub slice_bounds-e-end-2 : goal.slice_bounds-e-end-2
slice_bounds-e-end-2 c = front_room (e (goal.at.slice_bounds-e-end-2 c).After-span_columns) _

pub slice_bounds-a-end : goal.slice_bounds-a-end
slice_bounds-a-end c = a-room (goal.at.slice_bounds-a-end c).Start

pub slice_bounds-span_columns-end : goal.slice_bounds-span_columns-end
slice_bounds-span_columns-end c = sym (length-take-le _ _ (a-room (goal.at.slice_bounds-span_columns-end c).Start))

pub span_columns-requires : goal.span_columns-requires
span_columns-requires c = record { sound = c.requires.sound; ranged = c.requires.ranged; a_len = length-take-le _ _ (a-room (goal.at.span_columns-requires c).Start) }

pub slice_bounds-a-end-2 : goal.slice_bounds-a-end-2
slice_bounds-a-end-2 c = front_room (a (goal.at.slice_bounds-a-end-2 c).After-span_columns) _

pub slice_bounds-solve_words-end : goal.slice_bounds-solve_words-end
slice_bounds-solve_words-end c = front_long (q (goal.at.slice_bounds-solve_words-end c).After-span_columns) _

pub slice_bounds-solve_words-end-2 : goal.slice_bounds-solve_words-end-2
slice_bounds-solve_words-end-2 c = front_long (e (goal.at.slice_bounds-solve_words-end-2 c).After-span_columns) _

pub slice_bounds-solve_words-end-3 : goal.slice_bounds-solve_words-end-3
slice_bounds-solve_words-end-3 c = front_long (a (goal.at.slice_bounds-solve_words-end-3 c).After-span_columns) _

pub solve_words-requires : goal.solve_words-requires
solve_words-requires c =
    let u = (goal.at.solve_words-requires c).After-span_columns in
    let p = c.requires in
    record {
      sound = p.sound;
      ranged = p.ranged;
      matrices = record { q_is = front_is (q u) _; e_is = front_is (e u) _; a_is = front_is (a u) _ };
    }

pub returns : goal.returns
returns c = c.solve_words.ensures
