-- The value of a bit pattern of f64, in units of 2 ^ -1074: `magnitude` of the pattern without its sign (`pattern-value`).
use Rattle.std.specs.Prelude.{◌≡◌, refl, Bool, cond, ℕ, zero, suc, ◌+◌, ◌-◌, ◌*◌, ◌/◌, ◌%◌, ◌^◌, ◌≤◌, ◌<◌, leb, eqb, Float}
use Rattle.std.proofs.Common.{sym, ap, ◌∙◌, subst, mul-one, mod-eq_of_lt, arith, lt-ltb, le-ltb, ne_eqb}
use Rattle.std.proofs.Math.Pow.{mod-mod-pow}
use Rattle.std.specs.Float.{nan, inf, binary64}
use Rattle.std.specs.Float.Ieee.{odd, of_fields, of_bits}
use Rattle.std.specs.Float.Ieee.Exact.{HasValue, odd_sign}
use Rattle.root.specs.Scaled.{magnitude}

-- ---- by cases
pub low-magnitude : (b : ℕ) → b < 2 ^ 52 → magnitude b ≡ b
unfolding magnitude
low-magnitude b h = ap (λ (t : Bool). cond t b ((2 ^ 52 + b % 2 ^ 52) * 2 ^ (b / 2 ^ 52 - 1))) (lt-ltb b (2 ^ 52) h)

pub high-magnitude : (b : ℕ) → 2 ^ 52 ≤ b → magnitude b ≡ (2 ^ 52 + b % 2 ^ 52) * 2 ^ (b / 2 ^ 52 - 1)
unfolding magnitude
high-magnitude b h = ap (λ (t : Bool). cond t b ((2 ^ 52 + b % 2 ^ 52) * 2 ^ (b / 2 ^ 52 - 1))) (le-ltb b (2 ^ 52) h)

-- ---- by the fields
pub fields : (b : ℕ) → of_bits binary64 b ≡ of_fields binary64 (leb (2 ^ 63) b) (b % 2 ^ 63 / 2 ^ 52) (b % 2 ^ 52)
unfolding of_bits
fields b = refl

-- a number of units, by the exponent's field and the digits
abbrev by_fields : ℕ → ℕ → ℕ
by_fields zero t = t * 2 ^ 0
by_fields (suc x) t = (2 ^ 52 + t) * 2 ^ x

-- 2047 is the field of the infinities and NaN
value : (s : Bool) (E t : ℕ) → (E ≡ 2047 → ⊥) → HasValue (of_fields binary64 s E t) s (by_fields E t) (2 ^ 1074)
unfolding of_fields
value s zero t h = odd_sign 53 s t 0 1074
value s (suc x) t h =
    subst (λ (b : Bool). HasValue (cond b (cond (eqb t 0) (inf s) nan) (odd 53 s (2 ^ 52 + t) x 1074)) s ((2 ^ 52 + t) * 2 ^ x) (2 ^ 1074))
    (sym (ne_eqb (suc x) 2047 h))
    (odd_sign 53 s (2 ^ 52 + t) x 1074)

same : (b E : ℕ) → b / 2 ^ 52 ≡ E → by_fields E (b % 2 ^ 52) ≡ magnitude b
same b zero e =
    let h : b < 2 ^ 52 = omega arith in
    mul-one (b % 2 ^ 52) ∙ mod-eq_of_lt h ∙ sym (low-magnitude b h)
same b (suc x) e = sym (high-magnitude b (omega arith) ∙ ap (λ (k : ℕ). (2 ^ 52 + b % 2 ^ 52) * 2 ^ k) (go (b / 2 ^ 52) e))
  where
    go : (y : ℕ) → y ≡ suc x → y - 1 ≡ x
    go y i = omega arith

pub pattern-value : (b : ℕ) → (b % 2 ^ 63 / 2 ^ 52 ≡ 2047 → ⊥) → HasValue (of_bits binary64 b) (leb (2 ^ 63) b) (magnitude (b % 2 ^ 63)) (2 ^ 1074)
pattern-value b h =
    let a = b % 2 ^ 63 in
    let s = leb (2 ^ 63) b in
    let e : of_bits binary64 b ≡ of_fields binary64 s (a / 2 ^ 52) (a % 2 ^ 52) =
    fields b ∙ ap (λ (t : ℕ). of_fields binary64 s (a / 2 ^ 52) t) (sym (mod-mod-pow b 11 52)) in
    subst (λ (v : Float). HasValue v s (magnitude a) (2 ^ 1074)) (sym e)
    (subst (λ (n : ℕ). HasValue (of_fields binary64 s (a / 2 ^ 52) (a % 2 ^ 52)) s n (2 ^ 1074)) (same a (a / 2 ^ 52) refl)
    (value s (a / 2 ^ 52) (a % 2 ^ 52) h))
