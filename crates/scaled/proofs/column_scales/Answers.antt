use Rattle.std.proofs.Common.{arith, rules}
use lib.Ieee.{nan}
use Rattle.folds.specs.Tab.{taken_edit}
use Rattle.vector.specs.Laws.{over_by}
use Rattle.columns.specs.Laws.{length-columns_amax}
use Rattle.scaled.specs.Scaled.{above0_or1, above0_or1_each, column_scales}
use Rattle.scaled.proofs.column_scales.Goals as goal

pub returns : goal.returns
unfolding column_scales above0_or1_each
returns c =
    let w = c.write_each.ensures in
    taken_edit nan _ above0_or1 _ _ (length-columns_amax _ _ _) c.columns_amax.ensures
    (over_by _ _ _ _ (omega arith) w.length (λ k h. let e = w.written k h in search rules) w.kept)
