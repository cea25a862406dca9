-- The nearest whole number to a finite f64, halves to even, by its exact value. Callers use the laws: at most half away (`nearest-within-half`), a half
-- goes to the even one (`nearest-even`), a whole number is its own (`nearest_own`), the order stays (`nearest_mono`) and so do whole bounds
-- (`nearest-from`, `nearest_upto`).
use Rattle.std.specs.Prelude.{◌≡◌, true, false, ◌^◌, ◌≤◌, T, ℤ, pos, nat_abs, ◌*ℤ◌, ◌≤ℤ◌, Float}
use Rattle.std.proofs.Common.{ap, ◌∙◌, subst}
use Rattle.std.specs.Float.{binary64}
use Rattle.std.specs.Float.Ieee.{fits, lt, le}
use Rattle.std.specs.Float.Ieee.Fits.{of_int-fits}
use Rattle.arith.specs.Scalar.{is_finite}
use Rattle.nearest.specs.Whole.{even, WithinHalf, Even, even-is, even_own, even_mono, even-from, even_upto}
use Rattle.nearest.specs.Value.{one, one_pos, units, fromℤ, units-whole, finite-whole, not-lt-units, le-units}

unfoldable pub nearest : Float → ℤ
unfolding even
nearest x = even (units x) one

-- 2 × |x - r| ≤ 1
pub nearest-within-half : (x : Float) → WithinHalf (units x) one (nearest x)
unfolding nearest
nearest-within-half x = (even-is (units x) one one_pos).within_half

pub nearest-even : (x : Float) → Even (units x) one (nearest x)
unfolding nearest
nearest-even x = even-is (units x) one one_pos

pub nearest_own : (z : ℤ) → nat_abs z ≤ 2 ^ 53 → nearest (fromℤ z) ≡ z
unfolding nearest
nearest_own z h = ap (λ v. even v one) (units-whole z h) ∙ even_own one z one_pos

-- by the units
pub nearest_order : (x y : Float) → units x ≤ℤ units y → nearest x ≤ℤ nearest y
unfolding nearest
nearest_order x y h = even_mono (units x) (units y) one one_pos h

pub nearest-from : (x : Float) (r : ℤ) → (r *ℤ pos one) ≤ℤ units x → r ≤ℤ nearest x
unfolding nearest
nearest-from x r h = even-from (units x) one r one_pos h

pub nearest_upto : (x : Float) (r : ℤ) → units x ≤ℤ (r *ℤ pos one) → nearest x ≤ℤ r
unfolding nearest
nearest_upto x r h = even_upto (units x) one r one_pos h

-- by the floats' own order
module _ (x : Float) (p : T (fits binary64 x)) (f : is_finite x ≡ true) where
  pub nearest_mono : (y : Float) → T (fits binary64 y) → is_finite y ≡ true → le x y ≡ true → nearest x ≤ℤ nearest y
  nearest_mono y q g h = nearest_order x y (le-units x y p q f g h)

  -- x is not below the whole number r, or not above it
  pub nearest-least : (r : ℤ) → nat_abs r ≤ 2 ^ 53 → lt x (fromℤ r) ≡ false → r ≤ℤ nearest x
  nearest-least r h e =
      subst (λ z. z ≤ℤ nearest x) (nearest_own r h)
      (nearest_order (fromℤ r) x (not-lt-units x (fromℤ r) p (of_int-fits binary64 r) f (finite-whole r h) e))

  pub nearest-most : (r : ℤ) → nat_abs r ≤ 2 ^ 53 → lt (fromℤ r) x ≡ false → nearest x ≤ℤ r
  nearest-most r h e =
      subst (λ z. nearest x ≤ℤ z) (nearest_own r h)
      (nearest_order x (fromℤ r) (not-lt-units (fromℤ r) x (of_int-fits binary64 r) p (finite-whole r h) f e))

  -- lower ≤ x ≤ upper, both whole
  pub nearest-within : (lower upper : ℤ) → nat_abs lower ≤ 2 ^ 53 → nat_abs upper ≤ 2 ^ 53 → le (fromℤ lower) x ≡ true → le x (fromℤ upper) ≡ true
      → (lower ≤ℤ nearest x) × (nearest x ≤ℤ upper)
  nearest-within lower upper h k d e = (
    subst (λ z. z ≤ℤ nearest x) (nearest_own lower h)
        (nearest_order (fromℤ lower) x (le-units (fromℤ lower) x (of_int-fits binary64 lower) p (finite-whole lower h) f d)),
    subst (λ z. nearest x ≤ℤ z) (nearest_own upper k)
        (nearest_order x (fromℤ upper) (le-units x (fromℤ upper) p (of_int-fits binary64 upper) f (finite-whole upper k) e)),
  )
