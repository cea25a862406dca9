-- `abs` is |z|. Assumes nothing.
use mathlib.Core.Path.{◌∙◌, ap}
use lib.IntN.{pos, nat_abs}
use mir.Syntax.{w64}
use Rattle.ints.specs.Bound.{pos_b}
use Rattle.ints.specs.Held.{called, cell}
use Rattle.exact.proofs.abs.Goals as goal

pub returns : goal.returns
returns c = (called w64 (c.abs.ensures.value ∙ ap (λ z. pos (nat_abs z)) (cell w64 c.requires tt).is) (pos_b c.requires.size) tt).is
