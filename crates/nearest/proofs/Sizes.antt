-- The nearest whole number to d / 2 ^ k, and to the float of a pattern with the sign clear, as the bodies work them out.
use mathlib.Core.Path.{◌≡◌, refl, sym, ap, ap₂, ◌∙◌, subst}
use Prim.Native.Nat.{ℕ, zero, suc, ◌+◌, ◌-◌, ◌*◌, ◌/◌, ◌%◌, ◌^◌, ◌≤◌, ◌<◌}
use native.Mathlib.Nat.{le_of_lt, mul_comm, add_comm, div-add-mod'}
use native.Mathlib.Omega.{arith}
use lib.Pow.{pow-add, pow_pos}
use lib.IntN.{pos}
use lib.Signed.{◌≤ℤ◌}
use lib.Dec.{le→leb, leb→le}
use Rattle.root.specs.Scaled.{magnitude}
use Rattle.nearest.specs.Whole.{even, even_nat, even-scale, even_own, even_upto}
use Rattle.nearest.specs.Value.{one, one_pos}
use Rattle.root.specs.Value.{high-magnitude}
use Rattle.nearest.specs.Pattern.{magnitude-lt}

-- ---- q + r / (2 * h)
module _ (q r h : ℕ) where
  pub below-half : r < h → pos q ≡ even (pos (q * (2 * h) + r)) (2 * h)
  below-half l =
      sym (even_nat (q * (2 * h) + r) (2 * h) q (omega arith) (omega arith) (omega arith) (λ e. absurd (omega arith)) (λ e. absurd (omega arith)))

  pub above-half : r < 2 * h → h < r → pos (q + 1) ≡ even (pos (q * (2 * h) + r)) (2 * h)
  above-half b l =
      sym (even_nat (q * (2 * h) + r) (2 * h) (q + 1) (omega arith) (omega arith) (omega arith) (λ e. absurd (omega arith))
      (λ e. absurd (omega arith)))

  pub at-half : r < 2 * h → r ≡ h → pos (q + q % 2) ≡ even (pos (q * (2 * h) + r)) (2 * h)
  at-half b l = go (q % 2) refl
    where
      go : (e : ℕ) → q % 2 ≡ e → pos (q + e) ≡ even (pos (q * (2 * h) + r)) (2 * h)
      go zero k = sym (even_nat (q * (2 * h) + r) (2 * h) (q + 0) (omega arith) (omega arith) (omega arith) (λ e. omega arith) (λ e. omega arith))
      go (suc zero) k =
          sym (even_nat (q * (2 * h) + r) (2 * h) (q + 1) (omega arith) (omega arith) (omega arith) (λ e. omega arith) (λ e. omega arith))
      go (suc (suc e)) k = absurd (omega arith)

-- ---- d / 2 ^ k
pub shifted-is : (d k h r : ℕ) → h * 2 ≡ 2 ^ k → pos r ≡ even (pos (d / (h * 2) * (2 * h) + d % (h * 2))) (2 * h) → pos r ≡ even (pos d) (2 ^ k)
shifted-is d k h r e i =
    i ∙ ap₂ (λ (a u : ℕ). even (pos a) u) (ap (λ (n : ℕ). d / (h * 2) * n + d % (h * 2)) (mul_comm 2 h) ∙ div-add-mod' d (h * 2)) (mul_comm 2 h ∙ e)

-- ---- its nearest whole number
under-half : (m h u : ℕ) → u ≡ 2 * h → m < h → even (pos m) u ≡ pos 0
under-half m h u e l = even_nat m u 0 (omega arith) (omega arith) (omega arith) (λ e. refl) (λ e. refl)

pub size-low : (b : ℕ) → b / 2 ^ 52 < 1022 → pos 0 ≡ even (pos (magnitude b)) one
unfolding one
size-low b h = sym (under-half (magnitude b) (2 ^ 1073) (2 ^ 1074) refl (magnitude-lt b 1020 (omega arith)))

pub size_mid : (b r : ℕ) → 1022 ≤ b / 2 ^ 52 → b / 2 ^ 52 < 1075 → pos r ≡ even (pos (b % 2 ^ 52 + 2 ^ 52)) (2 ^ (1075 - b / 2 ^ 52)) →
    pos r ≡ even (pos (magnitude b)) one
unfolding one
size_mid b r lo hi e =
    let c = 2 ^ (b / 2 ^ 52 - 1) in
    let k = 1075 - b / 2 ^ 52 in
    e ∙ sym (even-scale (b % 2 ^ 52 + 2 ^ 52) (2 ^ k) c (pow_pos k) (pow_pos (b / 2 ^ 52 - 1)))
    ∙ ap₂ (λ (a u : ℕ). even (pos a) u)
    (ap (λ (n : ℕ). n * c) (add_comm (b % 2 ^ 52) (2 ^ 52)) ∙ sym (high-magnitude b (omega arith)))
    (sym (pow-add 2 k (b / 2 ^ 52 - 1)) ∙ ap (λ (n : ℕ). 2 ^ n) (let g : 1075 - b / 2 ^ 52 + (b / 2 ^ 52 - 1) ≡ 1074 = omega arith in g))

pub size_top : (b : ℕ) → 1075 ≤ b / 2 ^ 52 → b < 1076 * 2 ^ 52 → pos (b % 2 ^ 52 + 2 ^ 52) ≡ even (pos (magnitude b)) one
unfolding one
size_top b lo hi =
    sym
    (ap (λ (a : ℕ). even (pos a) (2 ^ 1074))
    (high-magnitude b (omega arith) ∙ ap₂ (λ (a n : ℕ). a * 2 ^ n) (add_comm (2 ^ 52) (b % 2 ^ 52))
    (let g : b / 2 ^ 52 - 1 ≡ 1074 = omega arith in g))
    ∙ even_own (2 ^ 1074) (pos (b % 2 ^ 52 + 2 ^ 52)) (pow_pos 1074))

-- it is at most 2 ^ 53
pub size-small : (b n : ℕ) → b < 1076 * 2 ^ 52 → pos n ≡ even (pos (magnitude b)) one → n ≤ 2 ^ 53
unfolding one
size-small b n h e =
    leb→le n (2 ^ 53)
    (subst (λ z. z ≤ℤ pos (2 ^ 53)) (sym e)
    (even_upto (pos (magnitude b)) one (pos (2 ^ 53)) one_pos
    (record { le = le→leb (magnitude b) (2 ^ 53 * 2 ^ 1074) (le_of_lt (magnitude-lt b 1074 h)) }))).le
