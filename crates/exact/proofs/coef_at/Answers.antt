use mathlib.Core.Path.{◌∙◌, sym}
use mir.Syntax.{w64}
use Rattle.ints.specs.Sum.{delta-same, delta_other}
use Rattle.ints.specs.Held.{cell}
use Rattle.exact.proofs.coef_at.Goals as goal

pub returns-then-p-i : goal.returns-then-p-i
returns-then-p-i c = (cell w64 c.requires tt).is ∙ sym (delta-same _ _ _ c.if-p-i.true)

pub returns-else-p-i : goal.returns-else-p-i
returns-else-p-i c = sym (delta_other _ _ _ c.if-p-i.false)
