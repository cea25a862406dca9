use Rattle.std.specs.Prelude.{false, take}
use Rattle.std.proofs.Common.{rules, tests}
use Rattle.std.proofs.lemmas.Iterator.{YieldsList-from_slice}
use Rattle.std.proofs.lemmas.Iterator.Search.{all_from_yields_List}
use Rattle.folds.specs.Kit.{◌∙◌}
use Rattle.folds.specs.Lists.{all-listed}
use Rattle.freeing.specs.Freeing.{all_true}
use Rattle.freeing.proofs.all_true.Goals as goal

pub returns : goal.returns
unfolding all_true
returns c =
    let a = c.args in
    all_from_yields_List (λ b. b) _ _ _ c.all.ensures.ran (YieldsList-from_slice (take a.n a.a.now) cc) (λ x b q k. search (rules, tests))
    ∙ all-listed false (λ b. b) a.n a.a.now c.requires
