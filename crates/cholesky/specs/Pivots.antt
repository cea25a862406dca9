-- Laws of the pivots. Where they pass the floor none is 0, so no division by a pivot meets 0. As a variable leaves, d becomes r = root(d d + v v):
-- where d passes the floor, r passes too, or is NaN.
use Rattle.std.specs.Prelude.{◌≡◌, refl, Bool, true, false, not, cond, List, ◌⊎◌, ℕ, zero, suc, ◌+◌, ◌*◌, ◌^◌, ◌<◌, ◌≤◌, ℤ, T, eqb, ltb, Float}
use Rattle.std.proofs.Common.{sym, ap, ◌∙◌, subst, true≢false, inl, inr, mul-pos, zero-mul, mul-le-mul, zero-lt-suc, le_trans, lt_of_lt_of_le, lt_irrefl, arith, ltb→lt, pow_pos, ne_eqb}
use Rattle.std.proofs.Math.Logic.{⊎_elim}
use Rattle.std.proofs.Math.Nat.{mul-le-mul_right, le_of_mul-le-mul_right}
use Rattle.std.specs.Float.{nan, inf, fin, Format, binary64}
use Rattle.std.specs.Float.Ieee.{prec, emax, low, up, down, unlike, odd, units, round, of_bits, add, mul, eq, lt, le, fits}
use Rattle.std.specs.Float.Ieee.Bits.{is_true}
use Rattle.std.specs.Float.Ieee.Fits.{up_pos, down_pos, add-fits}
use Rattle.std.specs.Float.Ieee.Exact.{HasValue, round_exact}
use Rattle.std.specs.Float.Ieee.Order.{le_of_values, round_mono}
use Rattle.std.specs.Float.Ieee.Positive.{above, above_of_le, positive, le→cross, values_of_le, mul_mono}
use Rattle.root.specs.Laws.{root_nan, root_infinite}
use Rattle.root.specs.Nearest.{root-nearest}
use Rattle.folds.specs.Fold.{all-at}
use Rattle.folds.specs.Decide.{lt-or-le}
use Rattle.arith.specs.Float.{f0, f1, fadd, fmul, sqrt}
use Rattle.columns.specs.Columns.{cell}
use Rattle.cholesky.specs.Cholesky.{pivot_floor, positive_definite}

truth : (b : Bool) → b ≡ true → T b
truth b e = rw e tt

-- ---- a pivot that passes is not 0
no_value : (z : Float) (s : Bool) (c : ℕ) → 0 < c → HasValue z s 0 c → T (above z) → ⊥
no_value nan s c C v h = h
no_value (inf t) s c C v h = v
no_value (fin true m e) s c C v h = h
no_value (fin false m e) s c C v h =
    let p : 0 < m * up e * c = mul-pos (mul-pos (ltb→lt 0 m h) (up_pos e)) C in omega (arith, v.1, zero-mul (down e))

square-of-zero : (s : Bool) (e : ℤ) → fmul (fin s zero e) (fin s zero e) ≡ round binary64 (unlike s s) 0 (down e * down e)
unfolding mul
square-of-zero s e = let z : 0 * up e * (0 * up e) ≡ 0 = rw (zero-mul (up e)) in rw z

zero-square : (s : Bool) (e : ℤ) → T (above (fmul (fin s zero e) (fin s zero e))) → ⊥
zero-square s e h =
    no_value (round binary64 (unlike s s) 0 (down e * down e)) (unlike s s) (down e * down e) (mul-pos (down_pos e) (down_pos e))
    (round_exact binary64 (unlike s s) 0 (down e * down e) 0 0 (mul-pos (down_pos e) (down_pos e)) (pow_pos 53) (pow_pos 2098)
    (sym (zero-mul (down e * down e))))
    (rw (square-of-zero s e) at h)

pub pivot_not-zero : (p : Float) → le pivot_floor (fmul p p) ≡ true → eq p f0 ≡ false
unfolding eq of_bits
pivot_not-zero nan h = refl
pivot_not-zero (inf s) h = refl
pivot_not-zero (fin s zero e) h = absurd (zero-square s e (above_of_le pivot_floor (fmul (fin s zero e) (fin s zero e)) tt (truth _ h)))
pivot_not-zero (fin s (suc m) e) h =
    let n : eqb (suc m * up e * 1) (0 * down e) ≡ false =
    ne_eqb (suc m * up e * 1) (0 * down e) (λ z. omega (arith, mul-pos (zero-lt-suc m) (up_pos e), zero-mul (down e))) in
    rw n

-- ---- a pivot that passes the floor or is NaN, and a factor all of whose pivots do
abbrev pub Sound : Float → Type 0
Sound d = (d ≡ nan) ⊎ (le pivot_floor (fmul d d) ≡ true)

abbrev pub Sounds : (n : ℕ) (l : List Float) → Type 0
Sounds n l = (i : ℕ) → i < n → Sound (cell l n i i)

pub sound-not-zero : (d : Float) → Sound d → eq d f0 ≡ false
unfolding eq
sound-not-zero d h = ⊎_elim (λ (e : d ≡ nan). rw e) (λ (p : le pivot_floor (fmul d d) ≡ true). pivot_not-zero d p) h

pub definite_sounds : (n : ℕ) (l : List Float) → positive_definite l n ≡ true → Sounds n l
unfolding positive_definite
definite_sounds n l e i h = inr (all-at n i (λ t. le pivot_floor (fmul (cell l n t t) (cell l n t t))) e h)

-- ---- signs
-- neither below zero nor -0
unfoldable unsigned : Float → Bool
unsigned nan = true
unsigned (inf s) = not s
unsigned (fin s m e) = not s

abbrev Signed : Bool → Float → Type 0
Signed s nan = ⊥
Signed s (inf t) = t ≡ s
Signed s (fin t m e) = t ≡ s

odd_signed : (d : ℕ) (s : Bool) (q k l : ℕ) → Signed s (odd d s q k l)
unfolding odd
odd_signed d s zero k l = refl
odd_signed d s (suc q) k l = refl

cond-signed : (b s : Bool) (x : Float) → Signed s x → Signed s (cond b x (inf s))
cond-signed true s x h = h
cond-signed false s x h = refl

units-signed : (f : Format) (s : Bool) (q k : ℕ) → Signed s (units f s q k)
unfolding units
units-signed f s q k =
    cond-signed (ltb (q * 2 ^ k) (2 ^ (low f + suc (emax f)))) s (odd (suc (prec f)) s q k (low f)) (odd_signed (suc (prec f)) s q k (low f))

round_signed : (f : Format) (s : Bool) (a b : ℕ) → Signed s (round f s a b)
unfolding round
round_signed f s a b = units-signed f s _ _

signed-unsigned : (x : Float) → Signed false x → unsigned x ≡ true
unfolding unsigned
signed-unsigned nan h = refl
signed-unsigned (inf t) h = rw h
signed-unsigned (fin t m e) h = rw h

like : (t s : Bool) → t ≡ s → unlike t s ≡ false
like true true e = refl
like true false e = absurd (true≢false e)
like false true e = absurd (true≢false (sym e))
like false false e = refl

cond-unsigned : (b t s : Bool) → t ≡ s → unsigned (cond b nan (inf (unlike t s))) ≡ true
unfolding unsigned
cond-unsigned true t s e = refl
cond-unsigned false t s e = rw (like t s e)

-- a product of two of one sign
product-unsigned : (s : Bool) (x y : Float) → Signed s x → Signed s y → unsigned (fmul x y) ≡ true
unfolding mul unsigned
product-unsigned s nan y p q = absurd p
product-unsigned s (inf t) nan p q = absurd q
product-unsigned s (inf t) (inf u) p q = rw (like t u (p ∙ sym q))
product-unsigned s (inf t) (fin u n d) p q = cond-unsigned (eqb n 0) t u (p ∙ sym q)
product-unsigned s (fin t m e) nan p q = absurd q
product-unsigned s (fin t m e) (inf u) p q = cond-unsigned (eqb m 0) t u (p ∙ sym q)
product-unsigned s (fin t m e) (fin u n d) p q =
    rw (like t u (p ∙ sym q))
    (signed-unsigned (round binary64 false (m * up e * (n * up d)) (down e * down d))
    (round_signed binary64 false (m * up e * (n * up d)) (down e * down d)))

-- 1 v v, as a variable's leaving has it
signed-one : (s : Bool) (m : ℕ) (e : ℤ) → Signed s (fmul f1 (fin s m e))
unfolding mul of_bits
signed-one true m e = round_signed binary64 true (1 * 1 * (m * up e)) (1 * down e)
signed-one false m e = round_signed binary64 false (1 * 1 * (m * up e)) (1 * down e)

square-unsigned : (v : Float) → unsigned (fmul (fmul f1 v) v) ≡ true
unfolding mul of_bits unsigned
square-unsigned nan = refl
square-unsigned (inf true) = refl
square-unsigned (inf false) = refl
square-unsigned (fin s m e) = product-unsigned s (fmul f1 (fin s m e)) (fin s m e) (signed-one s m e) refl

-- ---- the sum
abbrev Passes : Float → Type 0
Passes z = (z ≡ nan) ⊎ T (le pivot_floor z)

-- 1 / 67108864 is 1 / 2 ^ 26
floor_round : pivot_floor ≡ round binary64 false 1 (2 ^ 26)
unfolding of_bits round
floor_round = refl

scaled : (a b d e : ℕ) → 1 * d ≤ a * 2 ^ 26 → 1 * (d * e) ≤ (a * e + b) * 2 ^ 26
scaled a b d e h = omega (arith, mul-le-mul_right e h)

sum-passes : (x y : Float) → T (le pivot_floor x) → unsigned y ≡ true → Passes (fadd x y)
unfolding le add unsigned of_bits
sum-passes nan y h u = absurd h
sum-passes (inf true) y h u = absurd h
sum-passes (inf false) nan h u = inl refl
sum-passes (inf false) (inf true) h u = absurd (true≢false (sym u))
sum-passes (inf false) (inf false) h u = inr tt
sum-passes (inf false) (fin t n d) h u = inr tt
sum-passes (fin s m e) nan h u = inl refl
sum-passes (fin s m e) (inf true) h u = absurd (true≢false (sym u))
sum-passes (fin s m e) (inf false) h u = inr tt
sum-passes (fin true m e) (fin t n d) h u = absurd (above_of_le pivot_floor (fin true m e) tt h)
sum-passes (fin false m e) (fin true n d) h u = absurd (true≢false (sym u))
sum-passes (fin false m e) (fin false n d) h u =
    inr (subst (λ (z : Float). T (le z (fadd (fin false m e) (fin false n d)))) (sym floor_round)
    (round_mono binary64 1 (2 ^ 26) (m * up e * down d + n * up d * down e) (down e * down d) (pow_pos 26) (mul-pos (down_pos e) (down_pos d))
    (scaled (m * up e) (n * up d * down e) (down e) (down d)
    (le→cross pivot_floor (fin false m e) tt (above_of_le pivot_floor (fin false m e) tt h) h))))

-- ---- the root
-- 1 / 8192, the floor's root
abbrev pub pivot_root : Float
pivot_root = of_bits binary64 0x3f20_0000_0000_0000

clash : (a b c m : ℕ) → b < c → a * m < (b + c) * (b + c) → (c + c) * (c + c) ≤ a * m → ⊥
clash a b c m h k l =
    let n : b + c ≤ c + c = omega arith in lt_irrefl _ (lt_of_lt_of_le k (le_trans (mul-le-mul n n) l))

floor-units : HasValue pivot_floor false (2 ^ 1048) (2 ^ 1074)
unfolding of_bits
floor-units = (refl, refl)

root-units : HasValue pivot_root false (2 ^ 1061) (2 ^ 1074)
unfolding of_bits
root-units = (refl, refl)

root-fits : T (fits binary64 pivot_root)
unfolding of_bits fits
root-fits = tt

-- the root is the nearest value, and 1 / 8192 is one that is nearer than any below it
root-between : (z : Float) → T (fits binary64 z) → T (positive z) → T (le pivot_floor z) → T (le pivot_root (sqrt z))
root-between z F P h =
    let N = root-nearest binary64 z F P in
    let w = values_of_le pivot_floor z (2 ^ 1048) (2 ^ 1074) N.a (2 ^ 1074) (unfold of_bits in tt) P floor-units N.x_is h in
    let u : 2 ^ 1048 ≤ N.a = le_of_mul-le-mul_right w (pow_pos 1074) in
    let v : 2 ^ 1048 * 2 ^ 1076 ≤ N.a * 2 ^ 1076 = mul-le-mul_right (2 ^ 1076) u in
    ⊎_elim
    (λ (k : N.b < 2 ^ 1061). absurd (clash N.a N.b (2 ^ 1061) (2 ^ 1076) k (N.above pivot_root (2 ^ 1061) root-fits root-units k) v))
    (λ (k : 2 ^ 1061 ≤ N.b).
    le_of_values pivot_root (sqrt z) (2 ^ 1061) (2 ^ 1074) N.b (2 ^ 1074) (pow_pos 1074) (pow_pos 1074) root-units N.y_is
    (mul-le-mul_right (2 ^ 1074) k))
    (lt-or-le N.b (2 ^ 1061))

root-passes : (z : Float) → T (fits binary64 z) → T (le pivot_floor z) → T (le pivot_root (sqrt z))
unfolding le of_bits
root-passes nan F h = absurd h
root-passes (inf true) F h = absurd h
root-passes (inf false) F h = rw (root_infinite binary64) tt
root-passes (fin true m e) F h = absurd (above_of_le pivot_floor (fin true m e) tt h)
root-passes (fin false m e) F h = root-between (fin false m e) F (above_of_le pivot_floor (fin false m e) tt h) h

root-square : fmul pivot_root pivot_root ≡ pivot_floor
unfolding mul of_bits round
root-square = refl

square-passes : (r : Float) → T (le pivot_root r) → T (le pivot_floor (fmul r r))
unfolding le mul of_bits
square-passes nan h = absurd h
square-passes (inf true) h = absurd h
square-passes (inf false) h = tt
square-passes (fin true m e) h = absurd (above_of_le pivot_root (fin true m e) tt h)
square-passes (fin false m e) h =
    let P = above_of_le pivot_root (fin false m e) tt h in
    subst (λ (x : Float). T (le x (fmul (fin false m e) (fin false m e)))) root-square
    (mul_mono binary64 pivot_root (fin false m e) pivot_root (fin false m e) tt P tt P h h)

-- ---- as a variable leaves
of_nan : (d v : Float) → d ≡ nan → sqrt (fadd (fmul d d) v) ≡ nan
unfolding add mul
of_nan d v e = rw e (root_nan binary64)

-- r = root(d d + v v), where d passes the floor: NaN, or it passes too
pub leaving_pivot : (d v : Float) → le pivot_floor (fmul d d) ≡ true →
    let r = sqrt (fadd (fmul d d) (fmul (fmul f1 v) v)) in (r ≡ nan) ⊎ (le pivot_floor (fmul r r) ≡ true)
leaving_pivot d v h =
    let x = fadd (fmul d d) (fmul (fmul f1 v) v) in
    ⊎_elim
    (λ (e : x ≡ nan). inl (ap sqrt e ∙ root_nan binary64))
    (λ (p : T (le pivot_floor x)).
    inr (is_true _ (square-passes (sqrt x) (root-passes x (add-fits binary64 (fmul d d) (fmul (fmul f1 v) v)) p))))
    (sum-passes (fmul d d) (fmul (fmul f1 v) v) (truth _ h) (square-unsigned v))

pub sound-root : (d v : Float) → Sound d → Sound (sqrt (fadd (fmul d d) (fmul (fmul f1 v) v)))
sound-root d v h =
    ⊎_elim (λ (e : d ≡ nan). inl (of_nan d (fmul (fmul f1 v) v) e)) (λ (p : le pivot_floor (fmul d d) ≡ true). leaving_pivot d v p) h
