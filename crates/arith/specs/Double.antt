-- Doubling an f64 above zero that is not above half of the largest is exact, subnormal or not. So the double is larger (`double-lt`),
-- has one binary digit more (`double-size`), and at most 2,098 doublings lead from any f64 above zero past half of the largest (`doublings_fall`).
use Rattle.std.specs.Prelude.{◌≡◌, ℕ, zero, suc, ◌-◌, ◌*◌, ◌/◌, ◌^◌, ◌<◌, ◌≤◌, true, false, T, ℤ, pos, refl, Float}
use Rattle.std.proofs.Math.Path.{sym, ap, subst}
use Rattle.std.proofs.Common.{◌∙◌, true≢false, le_trans, le_of_eq, lt_of_lt_of_le, lt_of_not-le, not-le_of_lt, zero-mul, mul-one, mul_comm, mul_assoc, mul-pos, mul-le-mul_left, mul-lt-mul_of_pos_right, lt_of_mul-lt-mul_right, mul-div_cancel, pow-suc, arith, lt-ltb, lit<, pow-add, pow_pos, pow_mono}
use Rattle.std.proofs.Math.Nat.{lt_of_le_of_lt, mul_right_comm, eq_of_mul-eq-mul_right}
use Rattle.std.specs.Float.{nan, inf, fin, Format}
use Rattle.std.specs.Float.Ieee.{binary64, low, up, down, size, round, mul, div, of_bits, fits, lt}
use Rattle.std.specs.Float.Ieee.Digits.{size-lt, size-le, size_reaches}
use Rattle.std.specs.Float.Ieee.Fits.{down_pos}
use Rattle.std.specs.Float.Ieee.Exact.{HasValue, round_exact}
use Rattle.std.specs.Float.Ieee.Positive.{first_pos}
use Rattle.std.specs.Float.Ieee.Scale.{overflow}
use Rattle.folds.specs.Fold.{false_true}
use Rattle.arith.specs.Float.{f0, f2, fmul, fdiv}
use Rattle.arith.specs.Neutral.{zero-is}
use Rattle.arith.specs.Order.{upward, in_units, on_grid, units-is, units_exact, cross, not_cross, of_cross, inf_last, upward-above, under_inf}

-- ---- 2, and half of the largest f64, `f64::MAX / 2.0`
abbrev pub half_max : Float
half_max = fdiv (of_bits binary64 0x7fef_ffff_ffff_ffff) f2

pub two-is : f2 ≡ fin false 1 (pos 1)
unfolding of_bits
two-is = refl

pub zero-upward : T (upward f0)
zero-upward = subst (λ (x : Float). T (upward x)) (sym zero-is) tt

half_max-is : half_max ≡ fin false 0x1f_ffff_ffff_ffff (pos 970)
unfolding of_bits div
half_max-is = refl

-- ---- twice a value, as a value
module _ (f : Format) (m : ℕ) (e : ℤ) (g : T (fits f (fin false m e))) where
  abbrev U : ℕ
  U = in_units f (fin false m e)

  abbrev X : ℕ
  X = m * up e

  double-value : U * 2 < overflow f → HasValue (mul f (fin false m e) (fin false 1 (pos 1))) false (X * 2) (down e)
  unfolding mul
  double-value h =
      let o = on_grid f false m e g in
      let t = o.t in
      let pow : m * 2 ^ suc t ≡ m * 2 ^ t * 2 = ap (λ (x : ℕ). m * x) (pow-suc 2 t) ∙ sym (mul_assoc m (2 ^ t) 2) in
      let is : X * 2 * 2 ^ low f ≡ m * 2 ^ suc t * down e =
      mul_right_comm X 2 (2 ^ low f) ∙ ap (λ (x : ℕ). x * 2) o.is ∙ mul_right_comm (m * 2 ^ t) (down e) 2 ∙ ap (λ (x : ℕ). x * down e) (sym pow) in
      let fine : m * 2 ^ suc t < overflow f = lt_of_le_of_lt (le_of_eq (pow ∙ ap (λ (x : ℕ). x * 2) (sym (units-is f false m e g)))) h in
      subst (λ (c : ℕ). HasValue (round f false (X * 2) c) false (X * 2) (down e)) (sym (mul-one (down e)))
      (round_exact f false (X * 2) (down e) m (suc t) (down_pos e) o.few fine is)

-- a value of twice the size is above, and has twice the units
more : (x b : ℕ) → 0 < x * b → x * b < x * 2 * b
more x b h = lt_of_lt_of_le (grow (x * b) h) (le_of_eq (sym (mul_right_comm x 2 b)))
  where
    grow : (a : ℕ) → 0 < a → a < a * 2
    grow a h = omega arith

pub value-lt : (m : ℕ) (e : ℤ) (z : Float) → 0 < m * up e → HasValue z false (m * up e * 2) (down e) → lt (fin false m e) z ≡ true
unfolding lt
value-lt m e nan M v = absurd v
value-lt m e (inf t) M v = absurd v
value-lt m e (fin true n d) M v = absurd (true≢false v.0)
value-lt m e (fin false n d) M v =
    lt-ltb (m * up e * down d) (n * up d * down e) (lt_of_lt_of_le (more (m * up e) (down d) (mul-pos M (down_pos d))) (le_of_eq (sym v.1)))

pub value-units : (f : Format) (m : ℕ) (e : ℤ) (z : Float) → T (fits f (fin false m e)) → HasValue z false (m * up e * 2) (down e) →
    in_units f z ≡ in_units f (fin false m e) * 2
unfolding in_units
value-units f m e nan g v = absurd v
value-units f m e (inf t) g v = absurd v
value-units f m e (fin t n d) g v =
    let U = in_units f (fin false m e) in
    let L = 2 ^ low f in
    ap (λ (x : ℕ). x / down d)
    (eq_of_mul-eq-mul_right (down e) (down_pos e) (n * up d * L) (U * 2 * down d)
    (mul_right_comm (n * up d) L (down e)
    ∙ ap (λ (x : ℕ). x * L) v.1
    ∙ mul_right_comm (m * up e * 2) (down d) L
    ∙ ap (λ (x : ℕ). x * down d)
    (mul_right_comm (m * up e) 2 L ∙ ap (λ (x : ℕ). x * 2) (sym (units_exact f false m e g)) ∙ mul_right_comm U (down e) 2)
    ∙ mul_right_comm (U * 2) (down e) (down d)))
    ∙ mul-div_cancel (U * 2) (down_pos d)

-- ---- twice a number has a digit more
pub size-double : (n : ℕ) → 0 < n → size n < size (n * 2)
size-double n N = lt_of_not-le (λ (g : size (n * 2) ≤ size n). not-le_of_lt (lt_of_lt_of_le (size-lt (n * 2)) (pow_mono g)) (reaches (size n) refl))
  where
    none : (n : ℕ) → 0 < n → n < 1 → ⊥
    none n a b = omega arith

    reaches : (z : ℕ) → size n ≡ z → 2 ^ size n ≤ n * 2
    reaches zero e = absurd (none n N (subst (λ (x : ℕ). n < 2 ^ x) e (size-lt n)))
    reaches (suc z) e =
        le_trans (le_of_eq (ap (λ (x : ℕ). 2 ^ x) e ∙ pow-suc 2 z ∙ mul_comm (2 ^ z) 2))
        (le_trans (mul-le-mul_left 2 (size_reaches n z (subst (λ (x : ℕ). z < x) (sym e) (lt_self z)))) (le_of_eq (mul_comm 2 n)))
      where
        lt_self : (z : ℕ) → z < suc z
        lt_self z = omega arith

-- ---- not above half of the largest f64: below 2 ^ 2097 units
under-half : (m : ℕ) (e : ℤ) → T (fits binary64 (fin false m e)) → lt half_max (fin false m e) ≡ false → in_units binary64 (fin false m e) < 2 ^ 2097
under-half m e g h =
    lt_of_mul-lt-mul_right (down e)
    (lt_of_le_of_lt (le_of_eq (units_exact binary64 false m e g))
    (lt_of_lt_of_le
    (mul-lt-mul_of_pos_right
    (lt_of_le_of_lt (at-most m e (subst (λ (x : Float). lt x (fin false m e) ≡ false) half_max-is h))
    (mul-lt-mul_of_pos_right {m = 0x1f_ffff_ffff_ffff * 2 ^ 970} {n = 2 ^ 1023} (lit< tt) (down_pos e))) (pow_pos 1074))
    (le_of_eq (mul_right_comm (2 ^ 1023) (down e) (2 ^ 1074) ∙ ap (λ (x : ℕ). x * down e) (sym (pow-add 2 1023 1074))))))
  where
    at-most : (m : ℕ) (e : ℤ) → lt (fin false 0x1f_ffff_ffff_ffff (pos 970)) (fin false m e) ≡ false →
        m * up e ≤ 0x1f_ffff_ffff_ffff * 2 ^ 970 * down e
    at-most m e h = le_trans (le_of_eq (sym (mul-one (m * up e)))) (not_cross 0x1f_ffff_ffff_ffff (pos 970) m e h)

-- ---- the laws
-- above zero and not above half of the largest: a finite number, the sign clear
abbrev Small : Float → Type 0
Small nan = ⊥
Small (inf s) = ⊥
Small (fin s m e) = (s ≡ false) × (0 < m * up e) × (in_units binary64 (fin false m e) < 2 ^ 2097)

positive : (m : ℕ) (e : ℤ) → lt f0 (fin false m e) ≡ true → 0 < m * up e
positive m e h =
    lt_of_lt_of_le
    (lt_of_le_of_lt (le_of_eq (sym (zero-mul (down e)))) (cross 0 (pos 0) m e (subst (λ (x : Float). lt x (fin false m e) ≡ true) zero-is h)))
    (le_of_eq (mul-one (m * up e)))

of_positive : (m : ℕ) (e : ℤ) → 0 < m * up e → lt f0 (fin false m e) ≡ true
of_positive m e h =
    subst (λ (x : Float). lt x (fin false m e) ≡ true) (sym zero-is)
    (of_cross 0 (pos 0) m e (lt_of_le_of_lt (le_of_eq (zero-mul (down e))) (lt_of_lt_of_le h (le_of_eq (sym (mul-one (m * up e)))))))

nothing : (a : ℕ) → 0 ≤ a
nothing a = omega arith

-- what is above an upward value is above zero
pub above-zero : (x y : Float) → T (upward x) → lt x y ≡ true → lt f0 y ≡ true
above-zero x y u h = go x y u (upward-above x y u h) h
  where
    go : (x y : Float) → T (upward x) → T (upward y) → lt x y ≡ true → lt f0 y ≡ true
    go nan y u v h = absurd u
    go (inf true) y u v h = absurd u
    go (inf false) y u v h = absurd (inf_last y h)
    go (fin true m e) y u v h = absurd u
    go (fin false m e) nan u v h = absurd v
    go (fin false m e) (inf true) u v h = absurd v
    go (fin false m e) (inf false) u v h = subst (λ (x : Float). lt x (inf false) ≡ true) (sym zero-is) (under_inf 0 (pos 0))
    go (fin false m e) (fin true n d) u v h = absurd v
    go (fin false m e) (fin false n d) u v h =
        of_positive n d (first_pos (n * up d) (down e) (lt_of_le_of_lt (nothing (m * up e * down d)) (cross m e n d h)))

small : (h : Float) → T (fits binary64 h) → lt f0 h ≡ true → lt half_max h ≡ false → Small h
small h g p q = go h g (upward-above (fin false 0 (pos 0)) h tt (subst (λ (x : Float). lt x h ≡ true) zero-is p)) p q
  where
    go : (h : Float) → T (fits binary64 h) → T (upward h) → lt f0 h ≡ true → lt half_max h ≡ false → Small h
    go nan g u p q = absurd u
    go (inf true) g u p q = absurd u
    go (inf false) g u p q =
        absurd (false_true (sym q ∙ subst (λ (x : Float). lt x (inf false) ≡ true) (sym half_max-is) (under_inf 0x1f_ffff_ffff_ffff (pos 970))))
    go (fin true m e) g u p q = absurd u
    go (fin false m e) g u p q = (refl, positive m e p, under-half m e g q)

twice_under : (n : ℕ) → n < 2 ^ 2097 → n * 2 < overflow binary64
twice_under n h = mul-lt-mul_of_pos_right {m = n} {n = 2 ^ 2097} {k = 2} h (lit< tt)

doubled : (h : Float) → T (fits binary64 h) → Small h → (lt h (fmul h f2) ≡ true) × (in_units binary64 (fmul h f2) ≡ in_units binary64 h * 2)
doubled nan g v = absurd v
doubled (inf s) g v = absurd v
doubled (fin true m e) g v = absurd (true≢false v.0)
doubled (fin false m e) g v =
    let z = fmul (fin false m e) (fin false 1 (pos 1)) in
    let w = double-value binary64 m e g (twice_under (in_units binary64 (fin false m e)) v.2) in
    subst
    (λ (t : Float). (lt (fin false m e) (fmul (fin false m e) t) ≡ true) ×
    (in_units binary64 (fmul (fin false m e) t) ≡ in_units binary64 (fin false m e) * 2)) (sym two-is)
    (value-lt m e z v.1 w, value-units binary64 m e z g w)

-- how many doublings there can be from h on
unfoldable pub doublings : Float → ℕ
doublings h = 2098 - size (in_units binary64 h)

units_pos : (h : Float) → T (fits binary64 h) → Small h → 0 < in_units binary64 h
units_pos nan g v = absurd v
units_pos (inf s) g v = absurd v
units_pos (fin true m e) g v = absurd (true≢false v.0)
units_pos (fin false m e) g v =
    first_pos (in_units binary64 (fin false m e)) (down e)
    (lt_of_lt_of_le (mul-pos v.1 (pow_pos 1074)) (le_of_eq (sym (units_exact binary64 false m e g))))

units-low : (h : Float) → Small h → in_units binary64 h < 2 ^ 2097
unfolding in_units
units-low nan v = absurd v
units-low (inf s) v = absurd v
units-low (fin s m e) v = v.2

falls : (z y : ℕ) → z ≤ 2097 → z < y → 2098 - y < 2098 - z
falls z y a b = omega arith

module _ (h : Float) (g : T (fits binary64 h)) (p : lt f0 h ≡ true) (q : lt half_max h ≡ false) where
  pub double-lt : lt h (fmul h f2) ≡ true
  double-lt = (doubled h g (small h g p q)).0

  pub double-units : in_units binary64 (fmul h f2) ≡ in_units binary64 h * 2
  double-units = (doubled h g (small h g p q)).1

  pub double-size : size (in_units binary64 h) < size (in_units binary64 (fmul h f2))
  double-size = rw double-units (size-double (in_units binary64 h) (units_pos h g (small h g p q)))

  pub doublings_fall : doublings (fmul h f2) < doublings h
  unfolding doublings
  doublings_fall =
      falls (size (in_units binary64 h)) (size (in_units binary64 (fmul h f2)))
      (size-le (in_units binary64 h) 2097 (units-low h (small h g p q))) double-size
