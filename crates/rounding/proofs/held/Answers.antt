use Rattle.folds.specs.Kit.{◌≡◌, ◌∙◌, ap}
use Rattle.std.proofs.Common.{arith}
use Rattle.std.proofs.lemmas.Int.{ints}
use Rattle.std.specs.Int.{int_max, int_min}
use lib.IntN.{ℤ, pos, negsuc}
use mir.Syntax.{w64}
use Rattle.ints.specs.Diff.{minℤ, maxℤ}
use Rattle.ints.specs.Held.{called, param}
use Rattle.rounding.specs.Rounding.{held}
use Rattle.rounding.specs.Laws.{held-small}
use Rattle.rounding.proofs.held.Goals as goal

clamped : (z : ℤ) → int_max (negsuc 4294967295) (int_min z (pos 4294967296)) ≡ held z
unfolding held maxℤ minℤ
clamped z = grind (arith, ints)

pub returns : goal.returns
returns c = (called w64 (c.clamp.ensures.value ∙ ap (λ z. int_max (negsuc 4294967295) (int_min z (pos 4294967296))) (param w64 c.ranges.n).is ∙ clamped _) (held-small _) tt).is
