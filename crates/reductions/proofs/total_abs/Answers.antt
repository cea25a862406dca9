use Rattle.std.specs.Prelude.{◌≡◌, take, false}
use Rattle.std.specs.List.{fold as list_fold}
use Rattle.std.specs.Float.{float_with_sign}
use Rattle.std.specs.Float.Ieee.{nan}
use Rattle.arith.specs.Float.{fadd, f0, at}
use Rattle.std.proofs.iter.Serving.{returning}
use Rattle.std.proofs.lemmas.Grind.{common_steps}
use Rattle.std.proofs.Common.{◌∙◌, arith}
use Rattle.reductions.specs.Reductions.{total_abs}
use Rattle.folds.specs.Fold.{fold-same}
use Rattle.arith.specs.Methods.{abs-same}
use Rattle.reductions.specs.Slices.{fold-slice}
use Rattle.reductions.proofs.total_abs.Goals as goal

pub returns : goal.returns
unfolding total_abs
returns c =
    let x = c.args in
    let e : c.fold.result ≡ list_fold (λ s v. fadd s (float_with_sign false v)) f0 (take x.n x.a.now) = grind (arith, common_steps, returning) in
    e ∙ fold-slice nan _ f0 x.n x.a.now (omega arith) ∙ fold-same x.n _ _ f0 (λ k s _. rw (abs-same (at x.a.now k)))
