-- Sums of natural numbers, as bounds of sums of integers: |Σ f| ≤ Σℕ a where each |f i| ≤ a i.
use Rattle.std.specs.Prelude.{◌≡◌, refl, ◌⊎◌, Bool, true, false, cond, ℕ, zero, suc, ◌+◌, ◌*◌, ◌≤◌, ◌<◌, eqb, ℤ, pos, nat_abs}
use Rattle.std.proofs.Common.{sym, ◌∙◌, ap, ap₂, subst, inl, inr, zero-le, arith, le_refl, le_of_suc-le-suc, not-suc-le-zero, eq-or-lt_of_le, ne_eqb}
use Rattle.folds.specs.Fold.{fold}
use Rattle.ints.specs.Sum.{Σ, delta}
use Rattle.ints.specs.Bound.{◌≼◌, ◌+b◌}

unfoldable pub Σℕ : (n : ℕ) (a : ℕ → ℕ) → ℕ
Σℕ n a = fold n (λ i s. s + a i) 0

pub Σ-under : (n : ℕ) (f : ℕ → ℤ) (a : ℕ → ℕ) → ((i : ℕ) → i < n → f i ≼ a i) → Σ n f ≼ Σℕ n a
unfolding Σ Σℕ fold
Σ-under zero f a h = record { size = zero-le }
Σ-under (suc n) f a h = Σ-under n f a (λ i b. h i (omega arith)) +b h n (omega arith)

pub Σℕ-le : (n : ℕ) (a b : ℕ → ℕ) → ((i : ℕ) → i < n → a i ≤ b i) → Σℕ n a ≤ Σℕ n b
unfolding Σℕ fold
Σℕ-le zero a b h = zero-le
Σℕ-le (suc n) a b h = omega (arith, Σℕ-le n a b (λ i l. h i (omega arith)), h n (omega arith))

pub Σℕ_ext : (n : ℕ) (a b : ℕ → ℕ) → ((i : ℕ) → i < n → a i ≡ b i) → Σℕ n a ≡ Σℕ n b
unfolding Σℕ fold
Σℕ_ext zero a b h = refl
Σℕ_ext (suc n) a b h = ap₂ ◌+◌ (Σℕ_ext n a b (λ i l. h i (omega arith))) (h n (omega arith))

-- fewer terms
pub Σℕ-part : (k n : ℕ) (a : ℕ → ℕ) → k ≤ n → Σℕ k a ≤ Σℕ n a
unfolding Σℕ fold
Σℕ-part k zero a h = go k h
  where
    go : (k : ℕ) → k ≤ zero → Σℕ k a ≤ Σℕ zero a
    go zero h = zero-le
    go (suc k) h = absurd (not-suc-le-zero h)
Σℕ-part k (suc n) a h = go (eq-or-lt_of_le h) (Σℕ-part k n a)
  where
    go : (k ≡ suc n) ⊎ (k < suc n) → (k ≤ n → Σℕ k a ≤ Σℕ n a) → Σℕ k a ≤ Σℕ n a + a n
    go (inl e) ih = subst (λ (m : ℕ). Σℕ m a ≤ Σℕ n a + a n) (sym e) (le_refl (Σℕ n a + a n))
    go (inr l) ih = omega (arith, ih (le_of_suc-le-suc l))

-- one term
pub Σℕ_term : (n i : ℕ) (a : ℕ → ℕ) → i < n → a i ≤ Σℕ n a
unfolding Σℕ fold
Σℕ_term n i a h = omega (arith, Σℕ-part (suc i) n a h)

pub Σℕ-plus : (n : ℕ) (a b : ℕ → ℕ) → Σℕ n (λ i. a i + b i) ≡ Σℕ n a + Σℕ n b
unfolding Σℕ fold
Σℕ-plus zero a b = refl
Σℕ-plus (suc n) a b = omega (arith, Σℕ-plus n a b)

pub Σℕ-times : (k n : ℕ) (a : ℕ → ℕ) → Σℕ n (λ i. k * a i) ≡ k * Σℕ n a
unfolding Σℕ fold
Σℕ-times k zero a = omega arith
Σℕ-times k (suc n) a = omega (arith, Σℕ-times k n a)

pub Σℕ_by : (n : ℕ) (a : ℕ → ℕ) (k : ℕ) → Σℕ n (λ i. a i * k) ≡ Σℕ n a * k
unfolding Σℕ fold
Σℕ_by zero a k = omega arith
Σℕ_by (suc n) a k = omega (arith, Σℕ_by n a k)

pub Σℕ_const : (n c : ℕ) → Σℕ n (λ i. c) ≡ n * c
unfolding Σℕ fold
Σℕ_const zero c = omega arith
Σℕ_const (suc n) c = omega (arith, Σℕ_const n c)

pub Σℕ_swap : (n m : ℕ) (a : ℕ → ℕ → ℕ) → Σℕ n (λ i. Σℕ m (λ j. a i j)) ≡ Σℕ m (λ j. Σℕ n (λ i. a i j))
unfolding Σℕ fold
Σℕ_swap zero m a = sym (Σℕ_const m 0 ∙ mul-nothing m)
  where
    mul-nothing : (m : ℕ) → m * 0 ≡ 0
    mul-nothing m = omega arith
Σℕ_swap (suc n) m a = ap (λ (z : ℕ). z + Σℕ m (λ j. a n j)) (Σℕ_swap n m a) ∙ sym (Σℕ-plus m (λ j. Σℕ n (λ i. a i j)) (λ j. a n j))

abbrev pub deltaℕ : (j i c : ℕ) → ℕ
deltaℕ j i c = cond (eqb j i) c 0

pub delta-under : (j i : ℕ) (c : ℤ) → delta j i c ≼ deltaℕ j i (nat_abs c)
delta-under j i c = go (eqb j i)
  where
    go : (t : Bool) → cond t c (pos 0) ≼ cond t (nat_abs c) 0
    go true = record { size = le_refl (nat_abs c) }
    go false = record { size = zero-le }

other : (j i c : ℕ) → (j ≡ i → ⊥) → deltaℕ j i c ≡ 0
other j i c h = rw (ne_eqb j i h)

-- summed over all i it is at most c
pub Σℕ-delta : (n j c : ℕ) → Σℕ n (λ i. deltaℕ j i c) ≤ c
unfolding Σℕ fold
Σℕ-delta zero j c = zero-le
Σℕ-delta (suc n) j c = go (lt-or n j) (Σℕ-delta n j c)
  where
    cases : (t : Bool) → cond t c 0 ≤ c
    cases true = le_refl c
    cases false = zero-le

    none : n ≤ j → Σℕ n (λ i. deltaℕ j i c) ≡ 0
    none h = Σℕ_ext n (λ i. deltaℕ j i c) (λ i. 0) (λ i b. other j i c (λ q. omega arith)) ∙ Σℕ_const n 0 ∙ nothing n
      where
        nothing : (m : ℕ) → m * 0 ≡ 0
        nothing m = omega arith

    lt-or : (n j : ℕ) → (n ≤ j) ⊎ (j < n)
    lt-or zero j = inl zero-le
    lt-or (suc n) zero = inr (omega arith)
    lt-or (suc n) (suc j) = next (lt-or n j)
      where
        next : (n ≤ j) ⊎ (j < n) → (suc n ≤ suc j) ⊎ (suc j < suc n)
        next (inl h) = inl (omega arith)
        next (inr h) = inr (omega arith)

    go : (n ≤ j) ⊎ (j < n) → Σℕ n (λ i. deltaℕ j i c) ≤ c → Σℕ n (λ i. deltaℕ j i c) + deltaℕ j n c ≤ c
    go (inl h) ih = omega (arith, none h, cases (eqb j n))
    go (inr h) ih = omega (arith, ih, other j n c (λ q. omega arith))
