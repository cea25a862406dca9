use Rattle.folds.specs.Kit.{sym, ap, ◌∙◌, ◌+◌, rules}
use mathlib.Core.Path.{subst}
use lib.Dec.{T}
use lib.IntN.{ℤ, nat_abs}
use lib.Signed.{non_neg, yes_non_neg}
use mir.Syntax.{w64}
use mir.Val.{Fits, SFits, to_z, of_z}
use mir.Facts.{to_z-of_z, Fits-nat_abs}
use Rattle.block.specs.Gap.{price, gap}
use Rattle.gap.specs.Input.{gap_input, prices-are, room, cap_positive}
use Rattle.gap.proofs.gap_of.Goals as goal

-- the cap's price, cast
casts : {z : ℤ} → SFits w64 z → T (non_neg z) → T (non_neg (to_z w64 (of_z w64 z))) × Fits w64 (nat_abs (to_z w64 (of_z w64 z)))
casts f h = subst (λ (y : ℤ). T (non_neg y) × Fits w64 (nat_abs y)) (sym (to_z-of_z f)) (h, Fits-nat_abs tt f)

pub bounds-prices-n : goal.bounds-prices-n
bounds-prices-n c = room c.requires.sound c.requires.ranged c.requires.plan_and_prices

pub overflow_cast-cap : goal.overflow_cast-cap
overflow_cast-cap c =
    let f : SFits w64 (price c.args.prices.now (c.args.b.anchors + c.args.b.spans)) = search rules in
    casts f (yes_non_neg (cap_positive c.requires.sound c.requires.ranged c.requires.plan_and_prices))

pub gap-requires : goal.gap-requires
gap-requires c =
    let f : SFits w64 (price c.args.prices.now (c.args.b.anchors + c.args.b.spans)) = search rules in
    gap_input c.requires.sound c.requires.ranged c.requires.plan_and_prices (ap nat_abs (to_z-of_z f))

pub returns : goal.returns
returns c =
    let p = c.requires in
    let f : SFits w64 (price c.args.prices.now (c.args.b.anchors + c.args.b.spans)) = search rules in
    to_z-of_z {w = w64} (record { sfits = c.gap.type_inv })
    ∙ c.gap.ensures
    ∙ ap (gap _ _) (prices-are p.sound p.ranged p.plan_and_prices (ap nat_abs (to_z-of_z f)))
