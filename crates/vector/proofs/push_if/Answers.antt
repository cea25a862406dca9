use Rattle.folds.specs.Kit.{arith, pick}
use Rattle.folds.specs.Chosen.{push_if}
use Rattle.vector.proofs.push_if.Goals as goal

pub returns-then-on : goal.returns-then-on
unfolding push_if pick
returns-then-on c =
    record {
      list_after = rw c.if-on.true;
      upper_bound = omega arith;
    }

pub returns : goal.returns
unfolding push_if pick
returns c =
    record {
      list_after = rw c.if-on.false;
      upper_bound = omega arith;
    }
