use Rattle.folds.specs.Kit.{rules}
use Rattle.row_test.specs.Limits.{meets_row}
use Rattle.row_test.proofs.meets_row.Goals as goal

pub returns : goal.returns
unfolding meets_row
returns c = rw (← c.row_terms-terms.ensures, ← c.dot-sum.ensures) c.within.ensures
