use Rattle.folds.specs.Kit.{sym, ◌∙◌}
use Rattle.multiplier.specs.Search.{double_step}
use Rattle.multiplier.proofs.double_step.Goals as goal

pub double_by-requires : goal.double_by-requires
double_by-requires c = let p = c.requires in (p.originals, p.at_holds)

pub returns : goal.returns
unfolding double_step
returns c = c.double_by.ensures _ ∙ rw c.solve_raised-solved.ensures
