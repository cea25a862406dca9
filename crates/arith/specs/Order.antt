-- The order of the floats is the order of their bits, from +0 up to infinity: where x < y, and x is from +0 up, x's bits are below y's (`bits_lt`).
-- So between two of them lie only so many, and a search that puts a float strictly between its ends has fewer left.
use Rattle.std.specs.Prelude.{◌≡◌, ℕ, zero, suc, ◌+◌, ◌-◌, ◌*◌, ◌/◌, ◌%◌, ◌^◌, ◌<◌, ◌≤◌, Bool, true, false, not, ◌&&◌, T, ℤ, ◌≢◌, nat_eq, nat_le, nat_lt, refl, Float}
use Rattle.std.proofs.Common.{sym, ◌∙◌, subst, inl, inr, le_trans, le_of_eq, le_of_lt, lt_of_lt_of_le, lt_of_le_of_lt, eq-or-lt_of_le, zero-add, add_comm, zero-mul, mul_comm, mul_assoc, mul_right_comm, suc-mul, mul-le-mul_right, mul-lt-mul_of_pos_right, lt_of_mul-lt-mul_right, div-mul-le_self, div-lt_iff_lt-mul, le-div_iff_mul-le, arith, ltb-true, ltb-false, lt-ltb, ltb→lt, leb→le, pow-add, pow_pos, shl_lt}
use Rattle.std.proofs.Math.Path.{ap}
use Rattle.std.proofs.Math.Nat.{mul-div_cancel}
use Rattle.std.specs.Float.{nan, inf, fin, Format, binary64}
use Rattle.std.specs.Float.Ieee.{prec, emax, low, up, down, size, hid, ones, to_bits, fits, is_nan, lt}
use Rattle.std.specs.Float.Ieee.Digits.{size-lt, size-le, size_reaches}
use Rattle.std.specs.Float.Ieee.Fits.{down_pos, two, two-le_pos, reach, kept-lt, and_l, and_r}
use Rattle.std.specs.Float.Ieee.Scale.{overflow}
use Rattle.folds.specs.Fold.{false_true}
use Rattle.root.specs.Closest.{Holds}
use Rattle.root.specs.Nearest.{in_units_lem}

-- ---- +0, a number above zero, or +infinity: the sign is clear, and it is no NaN
abbrev pub upward : Float → Bool
upward nan = false
upward (inf s) = not s
upward (fin s m e) = not s

-- ---- a value's size in units of the format's smallest, 2 ^ -(low f); an infinity is the first power of two that the format does not hold
unfoldable pub in_units : Format → Float → ℕ
in_units f nan = 0
in_units f (inf s) = overflow f
in_units f (fin s m e) = m * up e * 2 ^ low f / down e

-- ---- the pattern of n units: how many digits are dropped, and the p digits that are kept, whose leading one adds one to the field
abbrev pattern : ℕ → ℕ → ℕ
pattern p n = (size n - p) * 2 ^ (p - 1) + n / 2 ^ (size n - p)

spare : (z p t : ℕ) → z ≤ p + t → z - p ≤ t
spare z p t h = omega arith

back : (t k : ℕ) → k ≤ t → t - k + k ≡ t
back t k h = omega arith

-- the digits that are dropped are zeros
whole : (p n : ℕ) → Holds p n → n / 2 ^ (size n - p) * 2 ^ (size n - p) ≡ n
whole p n v =
    let k = size n - p in
    let m = v.0 in
    let t = v.1 in
    let k-le : k ≤ t = spare (size n) p t (size-le n (p + t) (subst (λ (x : ℕ). x < 2 ^ (p + t)) v.3 (shl_lt p t v.2))) in
    let cut : m * 2 ^ (t - k) * 2 ^ k ≡ n =
    mul_assoc m (2 ^ (t - k)) (2 ^ k) ∙ ap (λ (x : ℕ). m * x) (sym (pow-add 2 (t - k) k) ∙ ap (λ (x : ℕ). 2 ^ x) (back t k k-le)) ∙ v.3 in
    ap (λ (x : ℕ). x / 2 ^ k * 2 ^ k) (sym cut) ∙ ap (λ (x : ℕ). x * 2 ^ k) (mul-div_cancel (m * 2 ^ (t - k)) (pow_pos k)) ∙ cut

pub size_mono : (a b : ℕ) → a ≤ b → size a ≤ size b
size_mono a b h = size-le a (size b) (lt_of_le_of_lt h (size-lt b))

fewer : (x y p : ℕ) → x ≤ y → x - p ≤ y - p
fewer x y p h = omega arith

all_in_use : (z p : ℕ) → 0 < p → 0 < z - p → p - 1 + (z - p) < z
all_in_use z p P h = omega arith

-- where digits are dropped, the leading one is kept
leading : (p n : ℕ) → 0 < p → 0 < size n - p → 2 ^ (p - 1) ≤ n / 2 ^ (size n - p)
leading p n P h =
    (le-div_iff_mul-le (pow_pos (size n - p))).1
    (le_trans (le_of_eq (sym (pow-add 2 (p - 1) (size n - p)))) (size_reaches n (p - 1 + (size n - p)) (all_in_use (size n) p P h)))

pred_suc : (p : ℕ) → 0 < p → 1 + (p - 1) ≡ p
pred_suc p h = omega arith

twice : (p : ℕ) → 0 < p → 2 ^ p ≡ 2 * 2 ^ (p - 1)
twice p P = ap (λ (x : ℕ). 2 ^ x) (sym (pred_suc p P)) ∙ pow-add 2 1 (p - 1)

field-up : (j k h x y : ℕ) → j * h + h ≤ k * h → x < 2 * h → h ≤ y → j * h + x < k * h + y
field-up j k h x y a b c = omega arith

-- of two numbers of units the smaller has the smaller pattern, if the larger is one that p digits can write
pub pattern-lt : (p a b : ℕ) → 0 < p → Holds p b → a < b → pattern p a < pattern p b
pattern-lt p a b P v h = elim (eq-or-lt_of_le (fewer (size a) (size b) p (size_mono a b (le_of_lt h)))) [
  | inl e ↦
      let k = size b - p in
      let less : a / 2 ^ k < b / 2 ^ k = (div-lt_iff_lt-mul (pow_pos k)).1 (subst (λ (x : ℕ). a < x) (sym (whole p b v)) h) in
      subst (λ (j : ℕ). j * 2 ^ (p - 1) + a / 2 ^ j < pattern p b) (sym e) (omega arith)
  | inr l ↦
      let j = size a - p in
      let k = size b - p in
      field-up j k (2 ^ (p - 1)) (a / 2 ^ j) (b / 2 ^ k)
      (le_trans (le_of_eq (sym (suc-mul j (2 ^ (p - 1))))) (mul-le-mul_right (2 ^ (p - 1)) l))
      (lt_of_lt_of_le (kept-lt p a) (le_of_eq (twice p P)))
      (leading p b P (lt_of_le_of_lt (zero-le_any j) l))
]
  where
    zero-le_any : (n : ℕ) → 0 ≤ n
    zero-le_any n = omega arith

-- ---- a finite value that the format holds is a number of units that its digits can write

-- m * 2 ^ e is m * 2 ^ t units
pub record OnGrid (f : Format) (m : ℕ) (e : ℤ) : Type 0 where
  pub t : ℕ
  pub few : m < 2 ^ prec f
  pub is : m * up e * 2 ^ low f ≡ m * 2 ^ t * down e
  pub under : m * 2 ^ t < overflow f

pub on_grid : (f : Format) (s : Bool) (m : ℕ) (e : ℤ) → T (fits f (fin s m e)) → OnGrid f m e
unfolding fits
on_grid f s zero e h = record {
  t = 0;
  few = pow_pos (prec f);
  is =
      ap (λ (x : ℕ). x * 2 ^ low f) (zero-mul (up e)) ∙ zero-mul (2 ^ low f) ∙ sym (zero-mul (down e)) ∙ ap (λ (x : ℕ). x * down e)
      (sym (zero-mul (2 ^ 0)));
  under = lt_of_le_of_lt (le_of_eq (zero-mul (2 ^ 0))) (pow_pos (low f + suc (emax f)));
}
on_grid f s (suc m) e h =
    let A = nat_eq (suc m % 2) 1 in
    let B = nat_lt (suc m) (2 ^ prec f) in
    let C = nat_le (down e) (2 ^ low f) in
    let D = nat_lt (suc m * up e) (2 ^ suc (emax f) * down e) in
    let w = in_units_lem (low f) (suc m) e (leb→le (down e) (2 ^ low f) (and_r (A && B) C (and_l (A && B && C) D h))) in
    let l = 2 ^ low f in
    let g = 2 ^ suc (emax f) in
    record {
      t = w.0;
      few = ltb→lt (suc m) (2 ^ prec f) (and_r A B (and_l (A && B) C (and_l (A && B && C) D h)));
      is = w.1;
      under =
          lt_of_mul-lt-mul_right (down e)
          (lt_of_le_of_lt (le_of_eq (sym w.1))
          (lt_of_lt_of_le (mul-lt-mul_of_pos_right (ltb→lt (suc m * up e) (g * down e) (and_r (A && B && C) D h)) (pow_pos (low f)))
          (le_of_eq (mul_right_comm g (down e) l ∙ ap (λ (x : ℕ). x * down e) (mul_comm g l ∙ sym (pow-add 2 (low f) (suc (emax f))))))));
    }

module _ (f : Format) (s : Bool) (m : ℕ) (e : ℤ) (h : T (fits f (fin s m e))) where
  abbrev og : OnGrid f m e
  og = on_grid f s m e h

  pub units-is : in_units f (fin s m e) ≡ m * 2 ^ og.t
  unfolding in_units
  units-is = ap (λ (x : ℕ). x / down e) og.is ∙ mul-div_cancel (m * 2 ^ og.t) (down_pos e)

  pub units-held : Holds (prec f) (in_units f (fin s m e))
  units-held = (m, og.t, og.few, sym units-is)

  pub units-under : in_units f (fin s m e) < overflow f
  units-under = lt_of_le_of_lt (le_of_eq units-is) og.under

  pub units_exact : in_units f (fin s m e) * down e ≡ m * up e * 2 ^ low f
  units_exact = ap (λ (x : ℕ). x * down e) units-is ∙ sym og.is

-- the pattern of a value whose sign is clear
bits_is : (f : Format) (m : ℕ) (e : ℤ) → to_bits f (fin false m e) ≡ pattern (prec f) (in_units f (fin false m e))
unfolding to_bits in_units
bits_is f m e = ap (λ (x : ℕ). x + n / 2 ^ (size n - prec f)) (zero-add ((size n - prec f) * hid f))
  where
    n : ℕ
    n = m * up e * 2 ^ low f / down e

-- ---- x < y as one of units
units_less : (x y L de dd a b : ℕ) → 0 < L → a * de ≤ x * L → b * dd ≡ y * L → x * dd < y * de → a < b
units_less x y L de dd a b P p q h =
    lt_of_mul-lt-mul_right (de * dd)
    (lt_of_le_of_lt (le_of_eq (sym (mul_assoc a de dd)))
    (lt_of_le_of_lt (mul-le-mul_right dd p)
    (lt_of_le_of_lt (le_of_eq (mul_right_comm x L dd))
    (lt_of_lt_of_le (mul-lt-mul_of_pos_right h P)
    (le_of_eq (mul_right_comm y de L ∙ ap (λ (z : ℕ). z * de) (sym q) ∙ mul_assoc b dd de ∙ ap (λ (z : ℕ). b * z) (mul_comm dd de)))))))

floor : (f : Format) (m : ℕ) (e : ℤ) → in_units f (fin false m e) * down e ≤ m * up e * 2 ^ low f
unfolding in_units
floor f m e = div-mul-le_self (m * up e * 2 ^ low f) (down e)

pub cross : (m : ℕ) (e : ℤ) (n : ℕ) (d : ℤ) → lt (fin false m e) (fin false n d) ≡ true → m * up e * down d < n * up d * down e
unfolding lt
cross m e n d h = ltb-true (m * up e * down d) (n * up d * down e) h

pub not_cross : (m : ℕ) (e : ℤ) (n : ℕ) (d : ℤ) → lt (fin false m e) (fin false n d) ≡ false → n * up d * down e ≤ m * up e * down d
unfolding lt
not_cross m e n d h = ltb-false (m * up e * down d) (n * up d * down e) h

pub of_cross : (m : ℕ) (e : ℤ) (n : ℕ) (d : ℤ) → m * up e * down d < n * up d * down e → lt (fin false m e) (fin false n d) ≡ true
unfolding lt
of_cross m e n d h = lt-ltb (m * up e * down d) (n * up d * down e) h

pub units-lt : (f : Format) (m : ℕ) (e : ℤ) (n : ℕ) (d : ℤ) → T (fits f (fin false n d)) → lt (fin false m e) (fin false n d) ≡ true
    → in_units f (fin false m e) < in_units f (fin false n d)
units-lt f m e n d g h =
    units_less (m * up e) (n * up d) (2 ^ low f) (down e) (down d) (in_units f (fin false m e)) (in_units f (fin false n d)) (pow_pos (low f))
    (floor f m e) (units_exact f false n d g) (cross m e n d h)

-- ---- what is above an upward value is upward; nothing is above +infinity, and no NaN is above or below anything
pub upward-above : (x y : Float) → T (upward x) → lt x y ≡ true → T (upward y)
unfolding lt
upward-above nan y u h = absurd u
upward-above (inf true) y u h = absurd u
upward-above (inf false) nan u h = absurd (false_true h)
upward-above (inf false) (inf t) u h = absurd (false_true h)
upward-above (inf false) (fin t n d) u h = absurd (false_true h)
upward-above (fin true m e) y u h = absurd u
upward-above (fin false m e) nan u h = absurd (false_true h)
upward-above (fin false m e) (inf true) u h = absurd (false_true h)
upward-above (fin false m e) (inf false) u h = tt
upward-above (fin false m e) (fin true n d) u h = absurd (false_true h)
upward-above (fin false m e) (fin false n d) u h = tt

pub inf_last : (y : Float) → lt (inf false) y ≢ true
unfolding lt
inf_last nan h = false_true h
inf_last (inf t) h = false_true h
inf_last (fin t n d) h = false_true h

pub under_inf : (m : ℕ) (e : ℤ) → lt (fin false m e) (inf false) ≡ true
unfolding lt
under_inf m e = refl

pub not_nan : (x : Float) → T (upward x) → is_nan x ≡ false
unfolding is_nan
not_nan nan u = absurd u
not_nan (inf s) u = refl
not_nan (fin s m e) u = refl

-- ---- every finite pattern is below an infinity's
top_field : (z p e : ℕ) → 2 ≤ p → p ≤ suc e → z ≤ suc e + (e + p - 2) → suc (z - p) < 2 * e + 1
top_field z p e a b c = omega arith

below_inf : (f : Format) (n : ℕ) → n < overflow f → pattern (prec f) n < ones f * hid f
below_inf f n h =
    let p = prec f in
    let k = size n - p in
    let z : size n ≤ suc (emax f) + low f = le_trans (size-le n (low f + suc (emax f)) h) (le_of_eq (add_comm (low f) (suc (emax f)))) in
    let k-lt : suc (suc k) ≤ ones f = top_field (size n) p (emax f) (two f) (reach f) z in
    let a : suc (suc k) * hid f ≤ ones f * hid f = mul-le-mul_right (hid f) k-lt in
    let b : suc (suc k) * hid f ≡ k * hid f + hid f + hid f = suc-mul (suc k) (hid f) ∙ ap (λ (x : ℕ). x + hid f) (suc-mul k (hid f)) in
    let c : n / 2 ^ k < 2 * hid f = lt_of_lt_of_le (kept-lt p n) (le_of_eq (twice p (two-le_pos p (two f)))) in
    last (suc (suc k) * hid f) (ones f * hid f) (k * hid f) (hid f) (n / 2 ^ k) a b c
  where
    last : (u w v h x : ℕ) → u ≤ w → u ≡ v + h + h → x < 2 * h → v + x < w
    last u w v h x a b c = omega arith

inf_is : (f : Format) → ones f * hid f ≡ to_bits f (inf false)
unfolding to_bits
inf_is f = sym (zero-add (ones f * hid f))

-- ---- the law
bits_up : (f : Format) (x y : Float) → T (fits f x) → T (fits f y) → T (upward x) → T (upward y) → lt x y ≡ true → to_bits f x < to_bits f y
bits_up f nan y p q u w h = absurd u
bits_up f (inf true) y p q u w h = absurd u
bits_up f (inf false) y p q u w h = absurd (inf_last y h)
bits_up f (fin true m e) y p q u w h = absurd u
bits_up f (fin false m e) nan p q u w h = absurd w
bits_up f (fin false m e) (inf true) p q u w h = absurd w
bits_up f (fin false m e) (inf false) p q u w h =
    lt_of_le_of_lt (le_of_eq (bits_is f m e))
    (lt_of_lt_of_le (below_inf f (in_units f (fin false m e)) (units-under f false m e p)) (le_of_eq (inf_is f)))
bits_up f (fin false m e) (fin true n d) p q u w h = absurd w
bits_up f (fin false m e) (fin false n d) p q u w h =
    lt_of_le_of_lt (le_of_eq (bits_is f m e))
    (lt_of_lt_of_le
    (pattern-lt (prec f) (in_units f (fin false m e)) (in_units f (fin false n d)) (two-le_pos (prec f) (two f)) (units-held f false n d q)
    (units-lt f m e n d q h))
    (le_of_eq (sym (bits_is f n d))))

pub bits_lt : (f : Format) (x y : Float) → T (fits f x) → T (fits f y) → T (upward x) → lt x y ≡ true → to_bits f x < to_bits f y
bits_lt f x y p q u h = bits_up f x y p q u (upward-above x y u h) h

-- ---- the bits that lie from x up to y; with a float strictly between, fewer on either side
unfoldable pub between : (x y : Float) → ℕ
between x y = to_bits binary64 y - to_bits binary64 x

fewer_left : (x m y : ℕ) → x < m → m < y → (m - x < y - x) × (y - m < y - x)
fewer_left x m y h k = ((omega arith), (omega arith))

pub between_falls : (x m y : Float) → T (fits binary64 x) → T (fits binary64 m) → T (fits binary64 y) → T (upward x) → lt x m ≡ true → lt m y ≡ true
    → (between x m < between x y) × (between m y < between x y)
unfolding between
between_falls x m y p q r u h k =
    fewer_left (to_bits binary64 x) (to_bits binary64 m) (to_bits binary64 y) (bits_lt binary64 x m p q u h)
    (bits_lt binary64 m y q r (upward-above x m u h) k)
