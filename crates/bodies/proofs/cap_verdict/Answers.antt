use mathlib.Core.Path.{refl}
use Rattle.format.specs.Laws.{need_stop, need-on, calls}
use Rattle.format.specs.Equations.{cap_verdict_by}
use Rattle.bodies.proofs.cap_verdict.Goals as goal

pub returns-then-u32_at-gt-MAX_SUM : goal.returns-then-u32_at-gt-MAX_SUM
returns-then-u32_at-gt-MAX_SUM c = cap_verdict_by _ (need_stop _ _ (search calls))

pub returns : goal.returns
returns c = cap_verdict_by _ (need-on _ _ (search calls) refl)
