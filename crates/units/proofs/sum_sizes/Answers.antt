use Rattle.std.specs.Prelude.{◌≡◌, take}
use Rattle.std.specs.Prelude.{false}
use Rattle.std.specs.Float.{float_with_sign}
use Rattle.folds.specs.Fold.{fold-same}
use Rattle.arith.specs.Methods.{abs-same}
use Rattle.std.specs.List.{fold as list_fold}
use Rattle.std.specs.Float.Ieee.{nan}
use Rattle.std.proofs.iter.Serving.{returning}
use Rattle.std.proofs.lemmas.Grind.{common_steps}
use Rattle.std.proofs.Common.{◌∙◌, arith}
use Rattle.arith.specs.Float.{fadd, fdiv, f0, at}
use Rattle.reductions.specs.Slices.{fold-slice}
use Rattle.units.specs.Units.{sum_sizes}
use Rattle.units.proofs.sum_sizes.Goals as goal

pub returns : goal.returns
unfolding sum_sizes
returns c =
    let x = c.args in
    let e : c.fold.result ≡ list_fold (λ s t. fadd s (float_with_sign false (fdiv t x.by))) f0 (take x.n x.terms.now) = grind (arith, common_steps, returning) in
    e ∙ fold-slice nan _ f0 x.n x.terms.now (omega arith) ∙ fold-same x.n _ _ f0 (λ k s _. rw (abs-same (fdiv (at x.terms.now k) x.by)))
