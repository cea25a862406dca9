use Rattle.folds.specs.Kit.{◌≡◌, ◌∙◌, ap}
use Rattle.std.proofs.Common.{arith}
use Rattle.std.proofs.lemmas.Int.{ints}
use Rattle.std.specs.Int.{int_max}
use lib.IntN.{ℤ, pos}
use mir.Syntax.{w64}
use mir.Val.{of_z}
use Rattle.ints.specs.Diff.{maxℤ}
use Rattle.ints.specs.Held.{Held, called}
use Rattle.rounding.specs.Rounding.{price_of, cap_price_of}
use Rattle.rounding.specs.Laws.{price-small, cap_small}
use Rattle.rounding.proofs.cap_price_of.Goals as goal

larger : (z : ℤ) → int_max z (pos 0) ≡ maxℤ (pos 0) z
unfolding maxℤ
larger z = grind (arith, ints)

pub returns : goal.returns
unfolding cap_price_of
returns c =
    let p : Held w64 (of_z w64 c.price_of.result) (price_of c.args.x) 4294967296 = called w64 c.price_of.ensures (price-small c.args.x) tt in
    (called w64 (c.max.ensures.value ∙ ap (λ z. int_max z (pos 0)) p.is ∙ larger _) (cap_small c.args.x) tt).is
