use Rattle.folds.specs.Kit.{pick}
use Rattle.std.proofs.Common.{le-ltb, lt-ltb, eq-eqb, ne_eqb}
use Rattle.slacks.specs.Slacks.{entry_e}
use Rattle.slacks.proofs.e_entry.Goals as goal

pub returns-then-j-m : goal.returns-then-j-m
unfolding entry_e pick
returns-then-j-m c = rw (lt-ltb _ _ c.if-i-n.true, lt-ltb _ _ c.if-j-m.true) c.get.ensures

pub returns-then-i-n : goal.returns-then-i-n
unfolding entry_e pick
returns-then-i-n c = rw (lt-ltb _ _ c.if-i-n.true, le-ltb _ _ c.if-j-m.false) c.get-then-i-n.ensures

pub returns-then-i-n-2 : goal.returns-then-i-n-2
unfolding entry_e pick
returns-then-i-n-2 c = rw (le-ltb _ _ c.if-i-n.false, eq-eqb _ _ c.if-i-n-2.true)

pub returns : goal.returns
unfolding entry_e pick
returns c = rw (le-ltb _ _ c.if-i-n.false, ne_eqb _ _ c.if-i-n-2.false)
