-- `root::settled` meets its contract, by `proofs/Settle.antt`.
use native.Mathlib.Omega.{arith}
use Rattle.root.proofs.Settle.{same, above, below}
use Rattle.root.proofs.settled.Goals as goal

pub returns-then-a-c : goal.returns-then-a-c
returns-then-a-c c = above _ _ _ _ c.requires.6 c.if-c-q.true c.if-a-c.true

pub returns-then-c-a : goal.returns-then-c-a
returns-then-c-a c = below _ _ _ _ c.requires.6 (omega arith) c.if-a-q.true c.if-c-a.true

pub returns : goal.returns
returns c = same _ _ _ _ c.requires.6 (omega arith) c.if-c-q.false c.if-a-q.false
