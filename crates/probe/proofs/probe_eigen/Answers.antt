use Rattle.probe.proofs.probe_eigen.Goals as goal

pub returns-then-found : goal.returns-then-found
returns-then-found c = rw c.if-found.true at c.found.ensures

pub returns : goal.returns
returns c = rw c.if-found.false at c.found.ensures
