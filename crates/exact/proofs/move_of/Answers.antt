use mathlib.Core.Path.{sym, ◌∙◌, ap}
use lib.IntN.{pos, ◌-ℤ◌}
use mir.Syntax.{w64}
use mir.Val.{to_z, of_z}
use Rattle.ints.specs.Bound.{pos_b}
use Rattle.ints.specs.Held.{Held, cell, called, cast, less}
use Rattle.block.specs.Plan.{abs}
use Rattle.block.specs.Laws.{move-is}
use Rattle.exact.proofs.move_of.Goals as goal
use Rattle.exact.proofs.move_of.Goals.{Start}

module _ (a : Start) where
  off : Held w64 (of_z w64 (to_z w64 (of_z w64 a.args.t) -ℤ to_z w64 a.args.w.key)) (a.args.t -ℤ pos a.args.w.key) 524288
  off = less (cell w64 a.requires.t tt) (cast w64 a.requires.ranged_word.key tt) tt

pub returns : goal.returns
returns c =
    let o = off (goal.at.returns c).Start in
    (called w64 (c.abs.ensures ∙ ap abs o.is) (pos_b o.bound.size) tt).is ∙ sym (move-is _ _)
