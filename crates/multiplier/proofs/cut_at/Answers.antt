use Rattle.folds.specs.Kit.{sym, ◌∙◌}
use Rattle.multiplier.specs.Search.{cut_at}
use Rattle.multiplier.proofs.cut_at.Goals as goal

pub cut_by-requires : goal.cut_by-requires
cut_by-requires c = let p = c.requires in (p.originals, p.at_holds)

pub returns : goal.returns
unfolding cut_at
returns c = c.cut_by.ensures _ ∙ rw c.solve_raised-solved.ensures
