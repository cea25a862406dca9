use Rattle.folds.specs.Kit.{arith, pick}
use borrow.Author.Tests.{lt-ltb, le-ltb}
use Rattle.update.specs.Update.{staying}
use Rattle.update.proofs.staying.Goals as goal

pub returns-then-i-p : goal.returns-then-i-p
unfolding staying pick
returns-then-i-p c =
    record {
      value = rw (lt-ltb _ _ c.if-i-p.true);
      upper_bound = omega arith;
    }

pub returns : goal.returns
unfolding staying pick
returns c =
    record {
      value = rw (le-ltb _ _ c.if-i-p.false);
      upper_bound = omega arith;
    }
