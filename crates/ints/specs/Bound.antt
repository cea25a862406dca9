-- How large a signed number can be: `z ≼ n` says |z| ≤ n. A bound is put together along the expression, `b₁ +b b₂ *b b₃`, and `sfits` at its end
-- makes the proof that the expression fits a signed width, by computation, where the bounds are numerals.
use Rattle.std.specs.Prelude.{◌≡◌, refl, ℕ, zero, suc, ◌+◌, ◌*◌, ◌^◌, ◌≤◌, ◌<◌, Bool, true, false, cond, T, ltb, eqb, ℤ, pos, negsuc, neg_ℤ, nat_abs, ◌+ℤ◌, ◌-ℤ◌, ◌*ℤ◌}
use Rattle.std.proofs.Common.{sym, ◌∙◌, subst, zero-le, arith, le_trans, mul-le-mul, le_of_eq, le_refl, lt_of_le_of_lt, add_comm, ltb→lt}
use Rattle.std.specs.Int.Signed.{mag, le_z}
use Rattle.std.specs.Int.{Width}
use mir.Val.{SFits, hbits}
use Rattle.folds.specs.Fold.{fold}
use Rattle.ints.specs.Diff.{diff, split, minℤ, maxℤ}
use Rattle.ints.specs.Sum.{Σ, delta}

infix 5 ◌≼◌
pub record ◌≼◌ (z : ℤ) (n : ℕ) : Type 0 where
  pub size : nat_abs z ≤ n

infixl 6 ◌+b◌ ◌-b◌
infixl 7 ◌*b◌
plus : (x y : ℤ) → nat_abs (x +ℤ y) ≤ nat_abs x + nat_abs y
plus = split _ λ a b. split _ λ c d. simp diff (omega arith)

minus : (x y : ℤ) → nat_abs (x -ℤ y) ≤ nat_abs x + nat_abs y
minus = split _ λ a b. split _ λ c d. simp diff (omega arith)

neg : (n : ℕ) → nat_abs (neg_ℤ (pos n)) ≡ n
neg zero = refl
neg (suc n) = refl

times : (x y : ℤ) → nat_abs (x *ℤ y) ≡ nat_abs x * nat_abs y
times (pos a) (pos b) = refl
times (pos a) (negsuc b) = neg (a * suc b)
times (negsuc a) (pos b) = neg (suc a * b)
times (negsuc a) (negsuc b) = refl

pub ◌+b◌ : {x y : ℤ} {a b : ℕ} → x ≼ a → y ≼ b → (x +ℤ y) ≼ (a + b)
◌+b◌ {x} {y} p q = record { size = omega (arith, plus x y, p.size, q.size) }

pub ◌-b◌ : {x y : ℤ} {a b : ℕ} → x ≼ a → y ≼ b → (x -ℤ y) ≼ (a + b)
◌-b◌ {x} {y} p q = record { size = omega (arith, minus x y, p.size, q.size) }

pub ◌*b◌ : {x y : ℤ} {a b : ℕ} → x ≼ a → y ≼ b → (x *ℤ y) ≼ (a * b)
◌*b◌ {x} {y} p q = record { size = le_trans (le_of_eq (times x y)) (mul-le-mul p.size q.size) }

-- a number that is written out; a natural number; a looser bound
pub lit_b : (z : ℤ) → z ≼ nat_abs z
lit_b z = record { size = le_refl (nat_abs z) }

pub pos_b : {n a : ℕ} → n ≤ a → pos n ≼ a
pos_b h = record { size = h }

pub loose : {z : ℤ} {a b : ℕ} → a ≤ b → z ≼ a → z ≼ b
loose h p = record { size = le_trans p.size h }

-- the same number, written otherwise
pub same-b : {x y : ℤ} {a : ℕ} → x ≡ y → x ≼ a → y ≼ a
same-b {a = a} e p = subst (λ z. z ≼ a) e p

-- the sum of n numbers of at most a each
pub Σ-b : (n : ℕ) {a : ℕ} (f : ℕ → ℤ) → ((i : ℕ) → i < n → f i ≼ a) → Σ n f ≼ n * a
unfolding Σ fold
Σ-b zero f h = record { size = zero-le }
Σ-b (suc n) {a} f h = loose (le_of_eq (add_comm (n * a) a ∙ sym (suc_mul' n a))) (Σ-b n f (λ i b. h i (omega arith)) +b h n (omega arith))
  where
    suc_mul' : (n a : ℕ) → suc n * a ≡ a + n * a
    suc_mul' n a = omega arith

pub delta-b : (j i : ℕ) {c : ℤ} {a : ℕ} → c ≼ a → delta j i c ≼ a
delta-b j i {c} {a} p = go (eqb j i)
  where
    go : (t : Bool) → cond t c (pos 0) ≼ a
    go true = p
    go false = record { size = zero-le }

pub min-b : {x y : ℤ} {a : ℕ} → x ≼ a → y ≼ a → minℤ x y ≼ a
unfolding minℤ
min-b {x} {y} {a} p q = go (le_z x y)
  where
    go : (t : Bool) → cond t x y ≼ a
    go true = p
    go false = q

pub max-b : {x y : ℤ} {a : ℕ} → x ≼ a → y ≼ a → maxℤ x y ≼ a
unfolding maxℤ
max-b {x} {y} {a} p q = go (le_z x y)
  where
    go : (t : Bool) → cond t y x ≼ a
    go true = q
    go false = p

pub mag_le : (z : ℤ) → mag z ≤ nat_abs z
mag_le (pos n) = le_refl n
mag_le (negsuc n) = omega arith

-- it fits the width
pub sfits : {w : Width} {z : ℤ} {a : ℕ} → z ≼ a → T (ltb a (2 ^ hbits w)) → SFits w z
sfits {w} {z} {a} p t = record { sfits = lt_of_le_of_lt (le_trans (mag_le z) p.size) (ltb→lt a (2 ^ hbits w) t) }
