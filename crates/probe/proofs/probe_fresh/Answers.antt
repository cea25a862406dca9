use Rattle.probe.proofs.probe_fresh.Goals as goal

pub returns-then-fresh : goal.returns-then-fresh
returns-then-fresh c = rw c.if-fresh.true at c.fresh.ensures

pub returns : goal.returns
returns c = rw c.if-fresh.false at c.fresh.ensures
