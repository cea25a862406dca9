-- `root::near` meets its contract: every number fits, and what `settled` is given is what q * q leaves (`proofs/Settle.antt`).
use borrow.Author.Rules.{rules}
use native.Mathlib.Omega.{arith}
use Rattle.root.proofs.Settle.{leaves, half-fits, middle-fits, low-fits}
use Rattle.root.proofs.near.Goals as goal

pub overflow_mul-h : goal.overflow_mul-h
overflow_mul-h c = omega (arith, half-fits c.args.q c.requires.3)

pub returns-then-m-h : goal.returns-then-m-h
returns-then-m-h c = search rules

pub overflow_mul-u-2 : goal.overflow_mul-u-2
overflow_mul-u-2 c = omega (arith, middle-fits c.args.q c.requires.3)

pub overflow_mul-l : goal.overflow_mul-l
overflow_mul-l c = omega (arith, low-fits c.args.q)

pub overflow_add-l : goal.overflow_add-l
overflow_add-l c = omega (arith, low-fits c.args.q)

pub settled-requires : goal.settled-requires
settled-requires c = (
  c.requires.0,
  c.requires.1,
  c.requires.2,
  c.requires.3,
  omega arith,
  omega (arith, low-fits c.args.q),
  leaves c.args.m c.args.q c.if-m-h.false c.if-t-u.false,
)
