use mathlib.Core.Path.{sym, ◌∙◌, ap}
use lib.IntN.{pos, ◌+ℤ◌}
use mir.Syntax.{w64}
use mir.Val.{to_z, of_z}
use Rattle.ints.specs.Held.{Held, cell, called, cast, read, fits+, fits*, plus, by}
use Rattle.block.specs.Plan.{move}
use Rattle.block.specs.Laws.{line-is}
use Rattle.block.specs.Fits.{move-b}
use Rattle.format.specs.Structs.{word_of}
use Rattle.gap.proofs.line.Goals as goal
use Rattle.gap.proofs.line.Goals.{After-move_of, Start}

module _ (c : Start) where
  raised : Held w64 (of_z w64 (to_z w64 c.args.w.slope +ℤ to_z w64 c.args.cap)) (pos c.args.w.slope +ℤ pos c.args.cap) 4295032831
  raised = plus (cast w64 c.requires.ranged_word.slope tt) (cast w64 c.requires.h.1 tt) tt

module _ (c : After-move_of) where
  moved : Held w64 (of_z w64 c.move_of.result) (move (word_of c.args.w) c.args.t) 524288
  moved = called w64 (c.move_of.ensures ∙ ap (move (word_of c.args.w)) (cell w64 c.requires.h.2 tt).is) (move-b c.requires.ranged_word c.requires.h.2) tt

pub move_of-requires : goal.move_of-requires
move_of-requires c =
    record {
      ranged_word = c.requires.ranged_word;
      t = read (cell w64 c.requires.h.2 tt);
    }

pub overflow_mul-result-2 : goal.overflow_mul-result-2
overflow_mul-result-2 c = fits* (raised (goal.at.overflow_mul-result-2 c).Start) (moved (goal.at.overflow_mul-result-2 c).After-move_of) tt

pub overflow_add-result-2 : goal.overflow_add-result-2
overflow_add-result-2 c = fits+ (by (cell w64 c.requires.h.0 tt) (cell w64 c.requires.h.2 tt) tt) (by (raised (goal.at.overflow_add-result-2 c).Start) (moved (goal.at.overflow_add-result-2 c).After-move_of) tt) tt

pub returns : goal.returns
returns c = (plus (by (cell w64 c.requires.h.0 tt) (cell w64 c.requires.h.2 tt) tt) (by (raised (goal.at.returns c).Start) (moved (goal.at.returns c).After-move_of) tt) tt).is ∙ sym (line-is _ _ _ _)
