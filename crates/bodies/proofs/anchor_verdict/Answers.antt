use Rattle.format.specs.Laws.{need_stop, need-on, calls}
use Rattle.format.specs.Equations.{anchor_verdict_by}
use Rattle.bodies.proofs.anchor_verdict.Goals as goal

pub returns-then-not-i32_size_up_to : goal.returns-then-not-i32_size_up_to
returns-then-not-i32_size_up_to c = anchor_verdict_by _ _ _ (need_stop _ _ (search calls))

pub returns : goal.returns
returns c = anchor_verdict_by _ _ _ (need-on _ _ (search calls) c.list_verdict.ensures)
