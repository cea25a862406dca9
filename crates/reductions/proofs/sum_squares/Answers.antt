use Rattle.std.specs.Prelude.{◌≡◌, take}
use Rattle.std.specs.List.{fold as list_fold}
use Rattle.std.specs.Float.Ieee.{nan}
use Rattle.arith.specs.Float.{fadd, fmul, f0}
use Rattle.std.proofs.iter.Serving.{returning}
use Rattle.std.proofs.lemmas.Grind.{common_steps}
use Rattle.std.proofs.Common.{◌∙◌, arith}
use Rattle.reductions.specs.Reductions.{sum_squares}
use Rattle.reductions.specs.Slices.{fold-slice}
use Rattle.reductions.proofs.sum_squares.Goals as goal

pub returns : goal.returns
unfolding sum_squares
returns c =
    let x = c.args in
    let e : c.fold.result ≡ list_fold (λ s v. fadd s (fmul v v)) f0 (take x.n x.a.now) = grind (arith, common_steps, returning) in
    e ∙ fold-slice nan _ f0 x.n x.a.now (omega arith)
