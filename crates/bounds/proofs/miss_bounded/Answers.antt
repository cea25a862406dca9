use mathlib.Core.Path.{sym, ◌∙◌, ap₂}
use lib.IntN.{pos}
use lib.Signed.{le_z}
use mir.Syntax.{w64}
use mir.Val.{of_z}
use Rattle.ints.specs.Held.{Held, cell, called, literal, by}
use Rattle.block.specs.Keeps.{coef_sizes}
use Rattle.block.specs.Laws.{miss_bounded-is}
use Rattle.block.specs.Fits.{coef_sizes-b}
use Rattle.format.specs.Structs.{list_of}
use Rattle.bounds.proofs.miss_bounded.Goals as goal
use Rattle.bounds.proofs.miss_bounded.Goals.{After-coef_sizes}

two : Held w64 2 (pos 2) 2
two = literal w64 (pos 2) tt

sizes : (c : After-coef_sizes) → Held w64 (of_z w64 c.coef_sizes.result) (coef_sizes (list_of c.args.l)) 32
sizes c = called w64 c.coef_sizes.ensures (coef_sizes-b c.requires.short) tt

pub returns : goal.returns
returns c = ap₂ le_z (by two (cell w64 c.requires.miss tt) tt).is (sizes (goal.at.returns c).After-coef_sizes).is ∙ sym (miss_bounded-is _ _)
