use Rattle.segments.specs.Laws.{held-not-free}
use Rattle.segments.proofs.segment_of.Goals as goal

pub returns-in-At : goal.returns-in-At
returns-in-At c = absurd (held-not-free _ _ c.in-At.is c.requires)
