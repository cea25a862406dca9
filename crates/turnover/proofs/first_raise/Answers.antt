use Rattle.folds.specs.Kit.{refl, pick_true, pick_false}
use Rattle.turnover.specs.Turnover.{first_raise}
use Rattle.turnover.proofs.first_raise.Goals as goal

pub returns-then-pull : goal.returns-then-pull
unfolding first_raise
returns-then-pull c = pick_true _ _ c.if-pull.true refl

pub returns : goal.returns
unfolding first_raise
returns c = pick_false _ _ c.if-pull.false refl
