-- A finite value over one that is not 0 and not smaller is finite; and the larger of absolute values.
use Rattle.std.specs.Prelude.{◌≡◌, ℕ, zero, suc, ◌+◌, ◌*◌, ◌^◌, ◌<◌, ◌≤◌, Bool, true, false, nat_lt, refl, Float}
use Rattle.std.proofs.Common.{sym, ◌∙◌, le_refl, le_of_lt, lt_of_le_of_lt, le_of_mul-le-mul_right, mul-le-mul_right, mul_right_comm, mul_comm, mul-pos, zero-mul, zero-lt-suc, pow-suc, arith, lit<, pow_pos, ltb-true, ltb-false}
use Rattle.std.proofs.Math.Dec.{eqb-suc-zero}
use Rattle.std.proofs.Math.Pow.{pow-lt}
use Rattle.std.specs.Float.{nan, inf, fin, Format, binary32, binary64}
use Rattle.std.specs.Float.Ieee.{prec, emax, low, up, down, unlike, round, div, lt, eq, is_nan, of_bits}
use Rattle.std.specs.Float.Ieee.Fits.{up_pos, down_pos, round_is, two, two-le_pos}
use Rattle.std.specs.Float.Ieee.Exact.{HasValue, units_val}
use Rattle.std.specs.Float.Ieee.Order.{drop, kept}
use Rattle.std.specs.Float.Ieee.Positive.{num, den}
use Rattle.std.specs.Float.Ieee.Scale.{grid, overflow}
use Rattle.folds.specs.Fold.{pick, false_true}
use Rattle.root.specs.Closest.{kept-under}
use Rattle.arith.specs.Float.{fdiv, f0}
use Rattle.arith.specs.Scalar.{abs, max, is_finite}

-- ---- a fraction that is at most 1 is finite when rounded

pub value-finite : (x : Float) (s : Bool) (a c : ℕ) → HasValue x s a c → is_finite x ≡ true
unfolding is_finite
value-finite nan s a c v = absurd v
value-finite (inf t) s a c v = absurd v
value-finite (fin t m e) s a c v = refl

room : (f : Format) → suc (low f) < low f + suc (emax f)
room binary32 = lit< tt
room binary64 = lit< tt

under : (f : Format) (a b : ℕ) → 0 < b → a ≤ b → grid f a b < overflow f
under f a b h l =
    let u : ℕ = 2 ^ low f in
    let k : 2 * (grid f a b * b) ≤ 3 * (a * u) + b = kept-under (prec f) (a * u) b (two-le_pos (prec f) (two f)) h in
    let one : 1 * b ≤ u * b = mul-le-mul_right b (pow_pos (low f)) in
    let all : a * u ≤ u * b = rw (mul_comm u b) (mul-le-mul_right u l) in
    let g : grid f a b * b ≤ u * 2 * b = rw (mul_right_comm u 2 b) (omega arith) in
    lt_of_le_of_lt (rw (pow-suc 2 (low f)) (le_of_mul-le-mul_right g h)) (pow-lt (room f))

pub round_finite : (s : Bool) (a b : ℕ) → 0 < b → a ≤ b → is_finite (round binary64 s a b) ≡ true
round_finite s a b h l =
    rw (round_is binary64 s a b)
    (value-finite _ s (grid binary64 a b) (2 ^ 1074)
    (units_val binary64 s (kept 53 (a * 2 ^ 1074) b) (drop 53 (a * 2 ^ 1074) b) (under binary64 a b h l)))

-- ---- the larger of two sizes

-- finite, and not negative
abbrev pub Size : Float → Type 0
Size nan = ⊥
Size (inf s) = ⊥
Size (fin true m e) = ⊥
Size (fin false m e) = m ≡ m

-- |x| ≤ |y|, of finite values
abbrev pub Under : (x y : Float) → Type 0
Under x y = num x * den y ≤ num y * den x

pub larger : (m x : Float) → Size m → is_finite x ≡ true → Size (max m (abs x)) × Under m (max m (abs x)) × Under x (max m (abs x))
unfolding is_finite max abs is_nan lt pick
larger nan x p q = absurd p
larger (inf s) x p q = absurd p
larger (fin true m e) x p q = absurd p
larger (fin false m e) nan p q = absurd (false_true q)
larger (fin false m e) (inf s) p q = absurd (false_true q)
larger (fin false m e) (fin s n d) p q = go (nat_lt (m * up e * down d) (n * up d * down e)) refl
  where
    z : Bool → Float
    z b = pick b (fin false n d) (fin false m e)

    go : (b : Bool) → nat_lt (m * up e * down d) (n * up d * down e) ≡ b → Size (z b) × Under (fin false m e) (z b) × Under (fin s n d) (z b)
    go true h = (refl, le_of_lt (ltb-true _ _ h), le_refl _)
    go false h = (refl, le_refl _, ltb-false _ _ h)

-- ---- x over an l that is not smaller

pub quotient : (x l : Float) → is_finite x ≡ true → Size l → eq l f0 ≡ false → Under x l → is_finite (fdiv x l) ≡ true
unfolding is_finite div eq of_bits
quotient nan l p q r u = absurd (false_true p)
quotient (inf s) l p q r u = absurd (false_true p)
quotient (fin s m e) nan p q r u = absurd q
quotient (fin s m e) (inf t) p q r u = absurd q
quotient (fin s m e) (fin true n d) p q r u = absurd q
quotient (fin s m e) (fin false zero d) p q r u =
    let z : eq (fin false 0 d) f0 ≡ true = rw (zero-mul (up d), zero-mul (down d)) in absurd (false_true (sym r ∙ z))
quotient (fin s m e) (fin false (suc n) d) p q r u =
    rw (eqb-suc-zero n)
    (round_finite (unlike s false) (m * up e * down d) (suc n * up d * down e) (mul-pos (mul-pos (zero-lt-suc n) (up_pos d)) (down_pos e)) u)
