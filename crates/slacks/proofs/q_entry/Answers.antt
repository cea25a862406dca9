use Rattle.folds.specs.Kit.{pick}
use Rattle.std.proofs.Common.{le-ltb, lt-ltb}
use Rattle.slacks.specs.Slacks.{entry_q}
use Rattle.slacks.proofs.q_entry.Goals as goal

pub returns-then-j-n : goal.returns-then-j-n
unfolding entry_q pick
returns-then-j-n c = rw (lt-ltb _ _ c.if-i-n.true, lt-ltb _ _ c.if-j-n.true) c.get.ensures

pub returns-else-j-n : goal.returns-else-j-n
unfolding entry_q pick
returns-else-j-n c = rw (lt-ltb _ _ c.if-i-n.true, le-ltb _ _ c.if-j-n.false)

pub returns-else-i-n : goal.returns-else-i-n
unfolding entry_q pick
returns-else-i-n c = rw (le-ltb _ _ c.if-i-n.false)
