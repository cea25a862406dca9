-- Where an operation of f64 changes nothing: x * 1 is x, and so is x + 0 but for x = -0, which becomes +0. And x * 0 is a zero.
use Rattle.std.specs.Prelude.{◌≡◌, ℕ, zero, suc, ◌+◌, ◌-◌, ◌*◌, ◌/◌, ◌^◌, ◌<◌, Bool, true, false, cond, T, ℤ, pos, ◌≢◌, nat_lt, refl, Float}
use Rattle.std.proofs.Common.{sym, ap, ◌∙◌, ⊎_elim, zero-mul as ℕ-zero-mul, mul-zero as ℕ-mul-zero, mul_right_comm, zero-lt-suc, eq-or-lt_of_le, le_of_suc-le-suc, not-suc-le-zero, arith, lt→ltb, lt-ltb, le-ltb}
use Rattle.std.proofs.Math.Nat.{mul-one as ℕ-mul-one, one-mul as ℕ-one-mul, mul-pos}
use Rattle.std.specs.Float.{nan, inf, fin, Format}
use Rattle.std.specs.Float.Ieee.{binary64, prec, low, up, down, hid, top, size, unlike, round, sum as ieee-sum, add, mul, fits, of_bits, to_bits}
use Rattle.std.specs.Float.Ieee.Fits.{up_pos, down_pos, round-fits}
use Rattle.std.specs.Float.Ieee.Bits.{of_bits-to_bits}
use Rattle.std.specs.Float.Ieee.Exact.{HasValue, round_exact}
use Rattle.std.specs.Float.Ieee.Nearest.{div_same}
use Rattle.std.specs.Float.Ieee.Scale.{round_same}
use Rattle.folds.specs.Fold.{fold, fold-same, false_true}
use Rattle.root.specs.Nearest.{units-of, holds, below}
use Rattle.arith.specs.Float.{fadd, fmul, f0, f1, sum}
use Rattle.arith.specs.Scalar.{is_finite}
use Rattle.arith.specs.Laws.{fin_finite, finite_by}

-- ---- a value that the format holds is written in one way

pattern : (f : Format) (x : Float) (s : Bool) (a c : ℕ) → 0 < c → HasValue x s a c
    → to_bits f x ≡ cond s (top f) 0 + (size (a * 2 ^ low f / c) - prec f) * hid f + a * 2 ^ low f / c / 2 ^ (size (a * 2 ^ low f / c) - prec f)
unfolding to_bits
pattern f nan s a c p v = absurd v
pattern f (inf t) s a c p v = absurd v
pattern f (fin t m e) s a c p v =
    let l = 2 ^ low f in
    let n : m * up e * l / down e ≡ a * l / c =
    div_same (m * up e * l) (down e) (a * l) c (down_pos e) p
    (mul_right_comm (m * up e) l c ∙ ap (λ (x : ℕ). x * l) v.1 ∙ mul_right_comm a (down e) l) in
    rw (n, v.0)

same-value : (f : Format) (x y : Float) (s : Bool) (a c : ℕ) → T (fits f x) → T (fits f y) → 0 < c → HasValue x s a c → HasValue y s a c → x ≡ y
same-value f x y s a c p q h v w = sym (of_bits-to_bits f x p) ∙ rw (pattern f x s a c h v, ← pattern f y s a c h w) (of_bits-to_bits f y q)

-- ---- rounding it gives it back

in_units_lem : (f : Format) (m : ℕ) (e : ℤ) → T (fits f (fin false m e)) → (a : ℕ) × HasValue (fin false m e) false a (2 ^ low f)
in_units_lem f zero e h = (0, (refl, simp ℕ-zero-mul))
in_units_lem f (suc m) e h = let u = units-of f (fin false (suc m) e) h (lt→ltb 0 (suc m) (zero-lt-suc m)) in (u.0, u.2)

back_from : (f : Format) (s : Bool) (m : ℕ) (e : ℤ) → T (fits f (fin false m e)) → T (fits f (fin s m e)) → round f s (m * up e) (down e) ≡ fin s m e
back_from f s m e g h =
    let u = in_units_lem f m e g in
    let k = holds f (fin false m e) u.0 g u.1 in
    let l = below f (fin false m e) u.0 g u.1 in
    same-value f (round f s (m * up e) (down e)) (fin s m e) s (m * up e) (down e) (round-fits f s (m * up e) (down e)) h (down_pos e)
    (round_exact f s (m * up e) (down e) k.0 k.1 (down_pos e) k.2 (rw k.3 l) (rw k.3 u.1.1))
    (refl, refl)

back : (f : Format) (s : Bool) (m : ℕ) (e : ℤ) → T (fits f (fin s m e)) → round f s (m * up e) (down e) ≡ fin s m e
unfolding fits
back f s zero e h = back_from f s zero e h h
back f s (suc m) e h = back_from f s (suc m) e h h

-- ---- a finite f64, 0 and 1

-- finite, and a value of f64
abbrev pub Held : Float → Type 0
Held x = (is_finite x ≡ true) × T (fits binary64 x)

-- +0 or -0
abbrev pub Zero : Float → Type 0
Zero x = (s : Bool) × (x ≡ fin s 0 (pos 0))

pub zero-is : f0 ≡ fin false 0 (pos 0)
unfolding of_bits
zero-is = refl

one-is : f1 ≡ fin false 1 (pos 0)
unfolding of_bits
one-is = refl

-- the cases of a finite f64
cases : (P : Float → Type 0) → ((s : Bool) (m : ℕ) (e : ℤ) → T (fits binary64 (fin s m e)) → P (fin s m e)) → (x : Float) → Held x → P x
cases P g x h = finite_by (λ x. T (fits binary64 x) → P x) g x h.0 h.1

round_zero : (s : Bool) (c : ℕ) → 0 < c → round binary64 s 0 c ≡ fin s 0 (pos 0)
unfolding fits
round_zero s c h = round_same binary64 s 0 c 0 1 h (zero-lt-suc 0) (simp ℕ-zero-mul) ∙ back binary64 s 0 (pos 0) tt

unlike_plus : (s : Bool) → (unlike s false ≡ s) × (unlike false s ≡ s)
unlike_plus true = (refl, refl)
unlike_plus false = (refl, refl)

pub mul-one : (x : Float) → Held x → fmul x f1 ≡ x
unfolding mul
mul-one = cases (λ x. fmul x f1 ≡ x)
    (λ s m e h. rw (one-is, (unlike_plus s).0, ℕ-mul-one (m * up e), ℕ-mul-one (down e)) (back binary64 s m e h))

pub one-mul : (x : Float) → Held x → fmul f1 x ≡ x
unfolding mul
one-mul = cases (λ x. fmul f1 x ≡ x)
    (λ s m e h. rw (one-is, (unlike_plus s).1, ℕ-one-mul (m * up e), ℕ-one-mul (down e)) (back binary64 s m e h))

pub mul-zero : (x : Float) → Held x → Zero (fmul x f0)
unfolding mul
mul-zero = cases (λ x. Zero (fmul x f0))
    (λ s m e h. (unlike s false, rw (zero-is, ℕ-mul-zero (m * up e)) (round_zero (unlike s false) _ (mul-pos (down_pos e) (zero-lt-suc 0)))))

pub zero-mul : (x : Float) → Held x → Zero (fmul f0 x)
unfolding mul
zero-mul = cases (λ x. Zero (fmul f0 x))
    (λ s m e h. (unlike false s, rw (zero-is, ℕ-zero-mul (m * up e)) (round_zero (unlike false s) _ (mul-pos (zero-lt-suc 0) (down_pos e)))))

-- ---- x + 0

-- x, and +0 for -0
abbrev pub plus : Float → Float
plus nan = nan
plus (inf s) = inf s
plus (fin false m e) = fin false m e
plus (fin true zero e) = fin false 0 (pos 0)
plus (fin true (suc m) e) = fin true (suc m) e

with_zero : (a : ℕ) → (nat_lt a 0 ≡ false) × (a - 0 ≡ a) × (a + 0 ≡ a) × (0 + a ≡ a)
with_zero a = (le-ltb a 0 (omega arith), omega arith, omega arith, omega arith)

sum-zero : (s t : Bool) (a c : ℕ) → (s ≡ true → 0 < a) → ieee-sum binary64 s a t 0 c ≡ round binary64 s a c
unfolding ieee-sum
sum-zero true true a c h = rw (with_zero a).2
sum-zero false false a c h = rw (with_zero a).2
sum-zero true false a c h = rw ((with_zero a).0, lt-ltb 0 a (h refl), (with_zero a).1)
sum-zero false true a c h = rw ((with_zero a).0, (with_zero a).1)

zero-sum : (t : Bool) (b c : ℕ) → (t ≡ true → 0 < b) → ieee-sum binary64 false 0 t b c ≡ round binary64 t b c
unfolding ieee-sum
zero-sum true b c h = rw (lt-ltb 0 b (h refl), (with_zero b).1)
zero-sum false b c h = rw (with_zero b).3

-- x is not -0
module _ (s : Bool) (m : ℕ) (e : ℤ) (held : T (fits binary64 (fin s m e))) (h : s ≡ true → 0 < m) where
  keeps : (t : Bool) → fadd (fin s m e) (fin t 0 (pos 0)) ≡ fin s m e
  unfolding add
  keeps t =
      rw (ℕ-zero-mul (down e), ℕ-mul-one (m * up e), ℕ-mul-one (down e))
      (sum-zero s t (m * up e) (down e) (λ q. mul-pos (h q) (up_pos e)) ∙ back binary64 s m e held)

  keeps-left : fadd (fin false 0 (pos 0)) (fin s m e) ≡ fin s m e
  unfolding add
  keeps-left =
      rw (ℕ-zero-mul (down e), ℕ-mul-one (m * up e), ℕ-one-mul (down e))
      (zero-sum s (m * up e) (down e) (λ q. mul-pos (h q) (up_pos e)) ∙ back binary64 s m e held)

-- x + 0 is not -0
settled : (P : Float → Type 0) → ((s : Bool) (m : ℕ) (e : ℤ) → T (fits binary64 (fin s m e)) → (s ≡ true → 0 < m) → P (fin s m e)) →
    (x : Float) → Held x → P (plus x)
unfolding fits
settled P g = cases (λ x. P (plus x)) go
  where
    go : (s : Bool) (m : ℕ) (e : ℤ) → T (fits binary64 (fin s m e)) → P (plus (fin s m e))
    go false m e h = g false m e h (λ q. absurd (false_true q))
    go true zero e h = g false 0 (pos 0) tt (λ q. absurd (false_true q))
    go true (suc m) e h = g true (suc m) e h (λ q. zero-lt-suc m)

pub plus-held : (x : Float) → Held x → Held (plus x)
plus-held = settled Held (λ s m e h z. (fin_finite s m e, h))

pub plus-add : (x y : Float) → Held x → Zero y → fadd (plus x) y ≡ plus x
plus-add x y h z = rw z.1 (settled (λ x. fadd x (fin z.0 0 (pos 0)) ≡ x) (λ s m e h q. keeps s m e h q z.0) x h)

pub add-zero : (x : Float) → Held x → fadd x f0 ≡ plus x
unfolding add ieee-sum
add-zero = cases (λ x. fadd x f0 ≡ plus x) go
  where
    go : (s : Bool) (m : ℕ) (e : ℤ) → T (fits binary64 (fin s m e)) → fadd (fin s m e) f0 ≡ plus (fin s m e)
    go false m e h = rw zero-is (keeps false m e h (λ q. absurd (false_true q)) false)
    go true zero e h =
        rw (zero-is, ℕ-zero-mul (up e), ℕ-zero-mul (down e)) (round_zero false (down e * 1) (mul-pos (down_pos e) (zero-lt-suc 0)))
    go true (suc m) e h = rw zero-is (keeps true (suc m) e h (λ q. zero-lt-suc m) false)

pub zero-add : (x : Float) → Held x → fadd f0 x ≡ plus x
unfolding add ieee-sum
zero-add = cases (λ x. fadd f0 x ≡ plus x) go
  where
    go : (s : Bool) (m : ℕ) (e : ℤ) → T (fits binary64 (fin s m e)) → fadd f0 (fin s m e) ≡ plus (fin s m e)
    go false m e h = rw zero-is (keeps-left false m e h (λ q. absurd (false_true q)))
    go true zero e h =
        rw (zero-is, ℕ-zero-mul (up e), ℕ-zero-mul (down e)) (round_zero false (1 * down e) (mul-pos (zero-lt-suc 0) (down_pos e)))
    go true (suc m) e h = rw zero-is (keeps-left true (suc m) e h (λ q. zero-lt-suc m))

-- ---- sums
pub sum-same : (n : ℕ) (g h : ℕ → Float) → ((k : ℕ) → k < n → g k ≡ h k) → sum n g ≡ sum n h
sum-same n g h e = fold-same n (λ k s. fadd s (g k)) (λ k s. fadd s (h k)) f0 (λ k s l. rw (e k l))

-- of zeros, and with a single other term
pub sum_zeros : (n : ℕ) (g : ℕ → Float) → ((k : ℕ) → k < n → Zero (g k)) → sum n g ≡ f0
unfolding fold fits
sum_zeros zero g z = refl
sum_zeros (suc n) g z =
    rw (sum_zeros n g (λ k l. z k (omega arith)), zero-is) (plus-add (fin false 0 (pos 0)) (g n) (fin_finite false 0 (pos 0), tt) (z n (omega arith)))

pub sum-one : (n i : ℕ) (g : ℕ → Float) → i < n → Held (g i) → ((k : ℕ) → k < n → (k ≢ i) → Zero (g k)) → sum n g ≡ plus (g i)
unfolding fold
sum-one zero i g l h z = absurd (not-suc-le-zero l)
sum-one (suc n) i g l h z =
    ⊎_elim (λ (e : i ≡ n). rw (sum_zeros n g (λ k m. z k (omega arith) (λ q. omega arith)), ← e) (zero-add (g i) h))
    (λ (m : i < n). rw (sum-one n i g m h (λ k q. z k (omega arith))) (plus-add (g i) (g n) h (z n (omega arith) (λ q. omega arith))))
    (eq-or-lt_of_le (le_of_suc-le-suc l))
