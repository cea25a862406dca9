use Rattle.folds.specs.Kit.{refl, arith, pick_true, pick_false}
use Rattle.variable_set.specs.Marked.{count_if_new}
use Rattle.variable_set.proofs.count_if_new.Goals as goal

pub returns-then-held-i : goal.returns-then-held-i
unfolding count_if_new
returns-then-held-i c =
    record {
      value = pick_true _ _ c.if-held-i.true refl;
      upper_bound = omega arith;
    }

pub returns : goal.returns
unfolding count_if_new
returns c =
    record {
      value = pick_false _ _ c.if-held-i.false refl;
      upper_bound = omega arith;
    }
