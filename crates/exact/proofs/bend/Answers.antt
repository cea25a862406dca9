use mathlib.Core.Path.{sym, ◌∙◌, ap}
use mir.Syntax.{w64}
use mir.Val.{of_z}
use Rattle.ints.specs.Held.{Held, cell, called, cast, read, fits*, by}
use Rattle.block.specs.Plan.{move}
use Rattle.block.specs.Laws.{bend-is}
use Rattle.block.specs.Fits.{move-b}
use Rattle.format.specs.Structs.{word_of}
use Rattle.exact.proofs.bend.Goals as goal
use Rattle.exact.proofs.bend.Goals.{After-move_of, Start}

module _ (c : After-move_of) where
  abbrev a : Start
  a = (goal.at.After-move_of c).Start

  moved : Held w64 (of_z w64 c.move_of.result) (move (word_of a.args.w) a.args.t) 524288
  moved =
      called w64 (c.move_of.ensures ∙ ap (move (word_of a.args.w)) (cell w64 a.requires.t tt).is) (move-b a.requires.ranged_word a.requires.t) tt

pub move_of-requires : goal.move_of-requires
move_of-requires c =
    record {
      ranged_word = c.requires.ranged_word;
      t = read (cell w64 c.requires.t tt);
    }

pub overflow_mul-result : goal.overflow_mul-result
overflow_mul-result c = fits* (cast w64 c.requires.ranged_word.slope tt) (moved c) tt

pub returns : goal.returns
returns c = (by (cast w64 c.requires.ranged_word.slope tt) (moved c) tt).is ∙ sym (bend-is _ _)
