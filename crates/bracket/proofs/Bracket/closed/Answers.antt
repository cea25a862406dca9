use Rattle.folds.specs.Kit.{refl, pick_true, pick_false}
use Rattle.bracket.specs.Bracket.{closed}
use Rattle.bracket.proofs.Bracket.closed.Goals as goal

pub returns-then-self : goal.returns-then-self
unfolding closed
returns-then-self c = pick_true _ _ c.if-self.true refl

pub returns : goal.returns
unfolding closed
returns c = pick_false _ _ c.if-self.false refl
