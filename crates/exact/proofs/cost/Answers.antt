use mathlib.Core.Path.{sym, ◌∙◌}
use lib.IntN.{pos}
use mir.Syntax.{w64}
use mir.Val.{of_z}
use Rattle.ints.specs.Held.{Held, called, literal, fits+, fits*, plus, by}
use Rattle.block.specs.Plan.{squares, bends}
use Rattle.block.specs.Laws.{cost-is}
use Rattle.block.specs.Fits.{all-squares-b, all-bends-b}
use Rattle.format.specs.Structs.{block_of}
use Rattle.exact.specs.Planned.{plan-timed}
use Rattle.exact.proofs.cost.Goals as goal
use Rattle.exact.proofs.cost.Goals.{After-bends, Start}

module _ (c : After-bends) where
  abbrev a : Start
  a = (goal.at.After-bends c).Start

  terms : Held w64 (of_z w64 c.squares.result) (squares (block_of a.args.b) a.args.times.now) 1152921504606846976
  terms = called w64 c.squares.ensures (all-squares-b a.requires.ranged (plan-timed a.requires)) tt

  words : Held w64 (of_z w64 c.bends.result) (bends (block_of a.args.b) a.args.times.now) 1099494850560
  words = called w64 c.bends.ensures (all-bends-b a.requires.ranged (plan-timed a.requires)) tt

two : Held w64 2 (pos 2) 2
two = literal w64 (pos 2) tt

pub overflow_mul-result : goal.overflow_mul-result
overflow_mul-result c = fits* two (words c) tt

pub overflow_add-result : goal.overflow_add-result
overflow_add-result c = fits+ (terms c) (by two (words c) tt) tt

pub returns : goal.returns
returns c = (plus (terms c) (by two (words c) tt) tt).is ∙ sym (cost-is _ _)
