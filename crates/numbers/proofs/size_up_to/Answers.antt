use Rattle.std.proofs.Common.{◌≡◌, ℕ, zero, suc, refl, ◌∙◌, ap, zero-le, to_z-of_z, Bool, true, false}
use Rattle.std.proofs.Math.Dec.{leb, leb-suc-zero, leb-suc-suc}
use Rattle.std.specs.Prelude.{ℤ, pos, negsuc, nat_abs}
use Rattle.std.proofs.lemmas.Bool.{le-leb}
use Rattle.folds.specs.Fold.{both, both-on, both_stop}
use Rattle.format.specs.Read.{size_up_to}
use Rattle.format.specs.Equations.{size_up_to_by}
use Rattle.numbers.proofs.size_up_to.Goals as goal

yes : (t : Bool) → t ≡ both t true
unfolding both
yes true = refl
yes false = refl

sized : (most : ℕ) (z : ℤ) → leb (nat_abs z) most ≡ size_up_to most z
sized zero (pos n) = size_up_to_by 0 (pos n) (both-on (le-leb 0 n zero-le) refl)
sized (suc m) (pos n) = size_up_to_by (suc m) (pos n) (both-on refl refl)
sized zero (negsuc n) = leb-suc-zero n ∙ size_up_to_by 0 (negsuc n) (both_stop true refl)
sized (suc m) (negsuc n) = leb-suc-suc n m ∙ size_up_to_by (suc m) (negsuc n) (yes (leb n m))

pub returns : goal.returns
returns c = ap (λ (n : ℕ). leb n c.args.most) (c.unsigned_abs.ensures.value ∙ ap nat_abs (to_z-of_z c.ranges.z)) ∙ sized c.args.most c.args.z
