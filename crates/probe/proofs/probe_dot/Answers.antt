use Rattle.folds.specs.Kit.{pick}
use Rattle.std.proofs.lemmas.Bool.{le-leb, lt-leb}
use Rattle.probe.specs.Probe.{dot}
use Rattle.probe.proofs.probe_dot.Goals as goal

pub returns-then-a-b : goal.returns-then-a-b
unfolding dot pick
returns-then-a-b c = rw (le-leb _ _ c.if-a-b.true) c.dot.ensures

pub returns : goal.returns
unfolding dot pick
returns c = rw (lt-leb _ _ c.if-a-b.false) c.nan.ensures
