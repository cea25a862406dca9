-- Each number that the engine gets is a whole number of the block, exactly, and at most 2 ^ 40 in size.
use Rattle.std.specs.Prelude.{◌≡◌, false, List, ℕ, ◌^◌, ◌<◌, ◌≤◌, T, leb, ℤ, nat_abs, Float}
use Rattle.std.proofs.Common.{ap, ◌∙◌, le_trans, lit≤}
use Rattle.std.specs.Float.{nan}
use Rattle.std.specs.Float.Ieee.{is_nan}
use Rattle.folds.specs.Fold.{tab}
use Rattle.folds.specs.Tab.{get_d_tab}
use Rattle.ints.specs.Bound.{◌≼◌, loose, same-b}
use Rattle.arith.specs.Float.{at}
use Rattle.arith.specs.Laws.{finite-number}
use Rattle.nearest.specs.Value.{fromℤ, finite-whole}

-- n whole numbers
abbrev pub wholes : (n : ℕ) (s : ℕ → ℤ) → List Float
wholes n s = tab n (λ i. fromℤ (s i))

-- the float x is the whole number z, which is at most 2 ^ 40 in size
pub record Whole (x : Float) (z : ℤ) : Type 0 where
  pub is : x ≡ fromℤ z
  pub small : z ≼ 1099511627776

pub within : {z : ℤ} {a : ℕ} → z ≼ a → T (leb a (2 ^ 53)) → nat_abs z ≤ 2 ^ 53
within p t = le_trans p.size (lit≤ t)

pub whole-number : {x : Float} {z : ℤ} → Whole x z → is_nan x ≡ false
whole-number {x} {z} w = rw w.is (finite-number (fromℤ z) (finite-whole z (within w.small tt)))

pub also : {x : Float} {y z : ℤ} → y ≡ z → Whole x y → Whole x z
also e w = record { is = w.is ∙ ap fromℤ e; small = same-b e w.small }

-- of a list made by index
pub listed : (m : ℕ) (z : ℕ → ℤ) (i : ℕ) {a : ℕ} → i < m → z i ≼ a → T (leb a 1099511627776) → Whole (at (wholes m z) i) (z i)
listed m z i l p t = record { is = get_d_tab nan m i _ l; small = loose (lit≤ t) p }
