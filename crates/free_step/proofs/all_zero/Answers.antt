use Rattle.std.specs.Prelude.{take}
use Rattle.std.proofs.Common.{rules, tests}
use Rattle.std.proofs.lemmas.Iterator.{YieldsList-from_slice}
use Rattle.std.proofs.lemmas.Iterator.Search.{all_from_yields_List}
use lib.Ieee.{eq, nan}
use Rattle.folds.specs.Kit.{◌∙◌}
use Rattle.folds.specs.Lists.{all-listed}
use Rattle.arith.specs.Float.{f0}
use Rattle.free_step.specs.FreeStep.{all_zero}
use Rattle.free_step.proofs.all_zero.Goals as goal

pub returns : goal.returns
unfolding all_zero
returns c =
    let a = c.args in
    all_from_yields_List (λ v. eq v f0) _ _ _ c.all.ensures.ran (YieldsList-from_slice (take a.n a.a.now) cc) (λ x b q k. search (rules, tests))
    ∙ all-listed nan (λ v. eq v f0) a.n a.a.now c.requires
