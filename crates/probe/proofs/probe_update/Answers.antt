use Rattle.probe.proofs.probe_update.Goals as goal

pub returns-then-updated : goal.returns-then-updated
returns-then-updated c = rw c.if-updated.true at c.updated.ensures

pub returns : goal.returns
returns c = rw c.if-updated.false at c.updated.ensures
