-- When a number q is the root of m * 2 ^ 52 to nearest, and what q * q leaves, by q's halves.
use mathlib.Core.Path.{◌≡◌, sym, ap, ◌∙◌, subst}
use mathlib.Core.Bool.{Bool, not}
use Prim.Native.Nat.{ℕ, zero, suc, ◌+◌, ◌-◌, ◌*◌, ◌/◌, ◌%◌, ◌^◌, ◌≤◌, ◌<◌}
use native.Mathlib.Nat.{le_trans, lt_of_le_of_lt, mul_assoc, mul_comm, mul_right_comm, mul-mul-mul_comm, mul-add, add-mul, mod-le, mul-le-mul, mul-le-mul_right}
use native.Mathlib.Numerals.{add-one}
use native.Mathlib.Omega.{arith}
use lib.Dec.{T, lit<}
use lib.Ieee.{binary64, nan_bits}
use lib.Ieee.Bits.{nan_bits_above}
use borrow.Author.Tests.{le-ltb}
use Rattle.root.specs.Isqrt.{isqrt, isqrt-is, IsRoot, root-lt, next, double}

-- q is √n to nearest: (2 q - 1) * (2 q - 1) ≤ 4 n < (2 q + 1) * (2 q + 1)
nearest-is : (n q : ℕ) → 0 < q → q * q < n + q → n ≤ q * q + q → (isqrt (4 * n) + 1) / 2 ≡ q
nearest-is n zero p lo hi = absurd (omega arith)
nearest-is n (suc k) p lo hi =
    let i : IsRoot (4 * n) (isqrt (4 * n)) = isqrt-is (4 * n) in
    let a = next k in
    let b = double k in
    let c = next (2 * k) in
    let d = double (suc k) in
    let e = next (2 * suc k) in
    let u : isqrt (4 * n) < suc (2 * suc k) = root-lt (lt_of_le_of_lt i.0 (omega arith)) in
    let v : suc (2 * k) < suc (isqrt (4 * n)) = root-lt (lt_of_le_of_lt {m = 4 * n} (omega arith) i.1) in
    omega arith

four : (m : ℕ) → 4 * (m * 2 ^ 52) ≡ m * 2 ^ 54
four m = omega arith

-- a - c is what q * q leaves of m * 2 ^ 52
module _ (m q a c : ℕ) (e : a + q * q ≡ m * 2 ^ 52 + c) where
  pub same : 0 < q → a ≤ c + q → c < a + q → q ≡ (isqrt (m * 2 ^ 54) + 1) / 2
  same p h k = rw (← four m) (sym (nearest-is (m * 2 ^ 52) q p (omega arith) (omega arith)))

  pub above : c + q < a → a ≤ c + 3 * q + 2 → q + 1 ≡ (isqrt (m * 2 ^ 54) + 1) / 2
  above h k =
      let z = next q in
      rw (← four m, add-one q) (sym (nearest-is (m * 2 ^ 52) (suc q) (omega arith) (omega arith) (omega arith)))

pub below : (m q a c : ℕ) → a + q * q ≡ m * 2 ^ 52 + c → 1 < q → a + q ≤ c → c + 3 ≤ a + 3 * q → q - 1 ≡ (isqrt (m * 2 ^ 54) + 1) / 2
below m zero a c e p h k = absurd (omega arith)
below m (suc q) a c e p h k =
    let z = next q in
    let y : suc q - 1 ≡ q = omega arith in
    rw (← four m, y) (sym (nearest-is (m * 2 ^ 52) q (omega arith) (omega arith) (omega arith)))

-- (h B + l) squared
square : (B h l : ℕ) → (h * B + l) * (h * B + l) ≡ h * h * (B * B) + 2 * (h * l * B) + l * l
square B h l =
    let x = h * B in
    let p : (x + l) * (x + l) ≡ x * (x + l) + l * (x + l) = add-mul x l (x + l) in
    let q : x * (x + l) ≡ x * x + x * l = mul-add x x l in
    let r : l * (x + l) ≡ l * x + l * l = mul-add l x l in
    let s : l * x ≡ x * l = mul_comm l x in
    let t : x * x ≡ h * h * (B * B) = mul-mul-mul_comm h B h B in
    let u : x * l ≡ h * l * B = mul_right_comm h B l in
    omega arith

-- what the body of `nearest` has for a and c
pub leaves : (m q : ℕ)
    → q / 2 ^ 26 * (q / 2 ^ 26) ≤ m
    → 2 * (q / 2 ^ 26) * (q % 2 ^ 26) ≤ (m - q / 2 ^ 26 * (q / 2 ^ 26)) * 2 ^ 26 + 2 ^ 28
    → ((m - q / 2 ^ 26 * (q / 2 ^ 26)) * 2 ^ 26 + 2 ^ 28 - 2 * (q / 2 ^ 26) * (q % 2 ^ 26)) * 2 ^ 26 + q * q
    ≡ m * 2 ^ 52 + (q % 2 ^ 26 * (q % 2 ^ 26) + 2 ^ 54)
leaves m q a b =
    let h = q / 2 ^ 26 in
    let l = q % 2 ^ 26 in
    let e : q ≡ h * 2 ^ 26 + l = omega arith in
    let s : q * q ≡ (h * 2 ^ 26 + l) * (h * 2 ^ 26 + l) = ap (λ (x : ℕ). x * x) e in
    let t = square (2 ^ 26) h l in
    let u : 2 * h * l ≡ 2 * (h * l) = mul_assoc 2 h l in
    omega arith

-- ---- what fits
pub half-fits : (q : ℕ) → q < 2 ^ 53 → q / 2 ^ 26 * (q / 2 ^ 26) < 2 ^ 54
half-fits q p = lt_of_le_of_lt (mul-le-mul {n₂ = 2 ^ 27 - 1} {m₂ = 2 ^ 27 - 1} (omega arith) (omega arith)) (lit< tt)

pub middle-fits : (q : ℕ) → q < 2 ^ 53 → 2 * (q / 2 ^ 26) * (q % 2 ^ 26) < 2 ^ 54
middle-fits q p = lt_of_le_of_lt (mul-le-mul {n₂ = 2 ^ 28 - 2} {m₂ = 2 ^ 26 - 1} (omega arith) (omega arith)) (lit< tt)

pub low-fits : (q : ℕ) → q % 2 ^ 26 * (q % 2 ^ 26) < 2 ^ 52
low-fits q = lt_of_le_of_lt (mul-le-mul {n₂ = 2 ^ 26 - 1} {m₂ = 2 ^ 26 - 1} (omega arith) (omega arith)) (lit< tt)

pub root-fits : (m : ℕ) → m < 2 ^ 54 → isqrt (m * 2 ^ 54) < 2 ^ 54
root-fits m h =
    let i : IsRoot (m * 2 ^ 54) (isqrt (m * 2 ^ 54)) = isqrt-is (m * 2 ^ 54) in
    let b : m * 2 ^ 54 ≤ (2 ^ 54 - 1) * 2 ^ 54 = mul-le-mul_right {n = 2 ^ 54 - 1} (2 ^ 54) (omega arith) in
    root-lt (lt_of_le_of_lt i.0 (lt_of_le_of_lt b (lit< tt)))

-- the pattern that `guess` starts from is no NaN's
pub start_no_nan : (m k : ℕ) → m < 2 ^ 53 → k < 2 → T (not (nan_bits binary64 (m + (1022 + k) * 2 ^ 52)))
start_no_nan m k h j =
    let b = m + (1022 + k) * 2 ^ 52 in
    let l : b ≤ 2047 * 2 ^ 52 = omega arith in
    subst (λ (t : Bool). T (not t)) (sym (nan_bits_above binary64 b ∙ le-ltb (2047 * 2 ^ 52) (b % 2 ^ 63) (le_trans (mod-le b (2 ^ 63)) l))) tt
