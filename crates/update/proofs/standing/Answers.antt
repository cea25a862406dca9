use Rattle.folds.specs.Kit.{arith, pick}
use mathlib.Core.Logic.{⊎_elim}
use native.Mathlib.Nat.{eq-or-lt_of_le}
use borrow.Author.Tests.{lt-ltb, le-ltb}
use Rattle.update.specs.Update.{standing}
use Rattle.update.proofs.standing.Goals as goal

pub returns-then-p-i : goal.returns-then-p-i
unfolding standing pick
returns-then-p-i c =
    record {
      value = rw (lt-ltb _ _ c.if-p-i.true);
      upper_bound = omega arith;
    }

pub returns : goal.returns
unfolding standing pick
returns c =
    record {
      value = rw (le-ltb _ _ c.if-p-i.false);
      upper_bound = ⊎_elim (λ e. absurd (c.requires.2 e)) (λ l. omega arith) (eq-or-lt_of_le c.if-p-i.false);
    }
