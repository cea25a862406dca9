use Rattle.std.proofs.Common.{◌≡◌, zero, suc, refl, ◌∙◌, nat_eq, ne_eqb, arith, of_z, w64}
use Rattle.std.proofs.Math.Dec.{leb-suc-zero}
use Rattle.std.specs.Prelude.{ℤ, pos, negsuc}
use mir.Val.{SFits}
use Rattle.folds.specs.Fold.{both-on, both_stop}
use Rattle.format.specs.Read.{is_zero}
use Rattle.format.specs.Equations.{is_zero_by}
use Rattle.numbers.proofs.is_zero.Goals as goal

tested : (z : ℤ) → SFits w64 z → nat_eq (of_z w64 z) 0 ≡ is_zero z
tested (pos zero) f = is_zero_by _ (both-on refl refl)
tested (pos (suc n)) f = ne_eqb (suc n) 0 (λ e. omega arith) ∙ is_zero_by _ (both_stop _ (leb-suc-zero n))
tested (negsuc n) f = ne_eqb _ 0 (λ e. omega (arith, f.sfits)) ∙ is_zero_by _ (both-on refl refl)

pub returns : goal.returns
returns c = tested c.args.z c.ranges.z
