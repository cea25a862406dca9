use Rattle.folds.specs.Kit.{◌∙◌}
use mathlib.Core.Path.{ap₂}
use Rattle.format.specs.Read.{count}
use Rattle.fields.proofs.count_of.Goals as goal

pub returns : goal.returns
returns c = (c.count.ensures.0 ∙ ap₂ count c.byte_at.ensures.0 c.u16_at.ensures.0, c.count.ensures.1)
