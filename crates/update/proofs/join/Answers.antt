use Rattle.folds.specs.Kit.{ap, ◌∙◌}
use Rattle.vector.specs.Laws.{over-copy}
use Rattle.rank_one.specs.RankOne.{factor_of}
use Rattle.update.specs.Update.{join}
use Rattle.update.proofs.join.Goals as goal

pub returns : goal.returns
unfolding join
returns c = rw (← (c.copy.ensures ∙ over-copy _ _ _ c.requires.5), ← c.joining.ensures, ← c.joined.ensures) (ap factor_of c.rank_one.ensures)
