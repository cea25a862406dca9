use Rattle.folds.specs.Kit.{arith, pick}
use borrow.Author.Tests.{eq-eqb, ne_eqb}
use Rattle.update.specs.Update.{joined_entry}
use Rattle.update.proofs.joined_entry.Goals as goal

pub returns-then-i-p : goal.returns-then-i-p
unfolding joined_entry pick
returns-then-i-p c = rw (eq-eqb _ _ c.if-i-p.true)

pub returns-then-j-p : goal.returns-then-j-p
unfolding joined_entry pick
returns-then-j-p c = rw (ne_eqb _ _ c.if-i-p.false, eq-eqb _ _ c.if-j-p.true)

pub standing-a-requires : goal.standing-a-requires
unfolding joined_entry pick
standing-a-requires c = (omega arith, omega arith, c.if-i-p.false)

pub standing-b-requires : goal.standing-b-requires
unfolding joined_entry pick
standing-b-requires c = (omega arith, omega arith, c.if-j-p.false)

pub returns : goal.returns
unfolding joined_entry pick
returns c =
    rw (ne_eqb _ _ c.if-i-p.false, ne_eqb _ _ c.if-j-p.false, ← c.standing-a.ensures.value, ← c.standing-b.ensures.value)
    c.get.ensures
