use Rattle.folds.specs.Kit.{sym, ◌∙◌, rules}
use Rattle.folds.specs.Fold.{both-on, both_stop}
use Rattle.quadratic.specs.Quadratic.{shaped}
use Rattle.quadratic.specs.Laws.{size}
use Rattle.quadratic.proofs.shaped.Goals as goal

pub long-requires : goal.long-requires
long-requires c = let s = size _ _ _ _ _ _ _ _ (sym c.sized.ensures ∙ c.if-sized.true) in (s.equalities, s.rows)

pub returns-then-sized : goal.returns-then-sized
unfolding shaped
returns-then-sized c = both-on (sym c.sized.ensures ∙ c.if-sized.true) c.long.ensures

pub returns : goal.returns
unfolding shaped
returns c = both_stop _ (sym c.sized.ensures ∙ c.if-sized.false)
