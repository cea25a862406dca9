-- The sum of f 0, f 1, .. f (n - 1), as a loop adds it up; its laws.
use Rattle.std.specs.Prelude.{◌≡◌, refl, Bool, true, false, cond, ℕ, zero, suc, ◌+◌, ◌*◌, ◌≤◌, ◌<◌, ◌⊎◌, eqb, ℤ, pos, ◌+ℤ◌, ◌-ℤ◌, ◌*ℤ◌, ◌≤ℤ◌}
use Rattle.std.proofs.Common.{sym, ◌∙◌, ap, ap₂, subst, arith, not-suc-le-zero, le_of_suc-le-suc, eq-or-lt_of_le, add-one, inl, inr, eq-eqb, ne_eqb}
use Rattle.std.proofs.Math.IntN.{+ℤ_idl, +ℤ_idr, zero-*ℤ, *ℤ-zero, *ℤ_comm}
use Rattle.std.specs.Int.Signed.{≤ℤ_refl}
use Rattle.folds.specs.Fold.{fold}
use Rattle.ints.specs.Diff.{diff, split}
use Rattle.ints.specs.Order.{≤_plus}

unfoldable pub Σ : (n : ℕ) (f : ℕ → ℤ) → ℤ
Σ n f = fold n (λ i s. s +ℤ f i) (pos 0)

pub Σ-empty : (f : ℕ → ℤ) → Σ 0 f ≡ pos 0
unfolding Σ fold
Σ-empty f = refl

pub Σ-suc : (n : ℕ) (f : ℕ → ℤ) → Σ (suc n) f ≡ Σ n f +ℤ f n
unfolding Σ fold
Σ-suc n f = refl

-- a turn of a loop
pub Σ-next : (n : ℕ) (f : ℕ → ℤ) → Σ (n + 1) f ≡ Σ n f +ℤ f n
unfolding Σ fold
Σ-next n f = rw add-one

pub Σ_ext : (n : ℕ) (f g : ℕ → ℤ) → ((i : ℕ) → i < n → f i ≡ g i) → Σ n f ≡ Σ n g
unfolding Σ fold
Σ_ext zero f g h = refl
Σ_ext (suc n) f g h = ap₂ ◌+ℤ◌ (Σ_ext n f g (λ i b. h i (omega arith))) (h n (omega arith))

pub Σ-le : (n : ℕ) (f g : ℕ → ℤ) → ((i : ℕ) → i < n → f i ≤ℤ g i) → Σ n f ≤ℤ Σ n g
unfolding Σ fold
Σ-le zero f g h = ≤ℤ_refl (pos 0)
Σ-le (suc n) f g h = ≤_plus (Σ-le n f g (λ i b. h i (omega arith))) (h n (omega arith))

four : (a b c d : ℤ) → (a +ℤ b) +ℤ (c +ℤ d) ≡ (a +ℤ c) +ℤ (b +ℤ d)
four = split _ λ a b. split _ λ c d. split _ λ e f. split _ λ g h. simp diff (omega arith)

dist : (k a b : ℤ) → k *ℤ a +ℤ k *ℤ b ≡ k *ℤ (a +ℤ b)
dist = split _ λ a b. split _ λ c d. split _ λ e f. simp diff (omega arith)

pub Σ-plus : (n : ℕ) (f g : ℕ → ℤ) → Σ n (λ i. f i +ℤ g i) ≡ Σ n f +ℤ Σ n g
unfolding Σ fold
Σ-plus zero f g = refl
Σ-plus (suc n) f g = ap (λ z. z +ℤ (f n +ℤ g n)) (Σ-plus n f g) ∙ four (Σ n f) (Σ n g) (f n) (g n)

minus4 : (a b c d : ℤ) → (a -ℤ b) +ℤ (c -ℤ d) ≡ (a +ℤ c) -ℤ (b +ℤ d)
minus4 = split _ λ a b. split _ λ c d. split _ λ e f. split _ λ g h. simp diff (omega arith)

pub Σ-minus : (n : ℕ) (f g : ℕ → ℤ) → Σ n (λ i. f i -ℤ g i) ≡ Σ n f -ℤ Σ n g
unfolding Σ fold
Σ-minus zero f g = refl
Σ-minus (suc n) f g = ap (λ z. z +ℤ (f n -ℤ g n)) (Σ-minus n f g) ∙ minus4 (Σ n f) (Σ n g) (f n) (g n)

pub Σ-times : (k : ℤ) (n : ℕ) (f : ℕ → ℤ) → Σ n (λ i. k *ℤ f i) ≡ k *ℤ Σ n f
unfolding Σ fold
Σ-times k zero f = sym (*ℤ-zero k)
Σ-times k (suc n) f = ap (λ z. z +ℤ k *ℤ f n) (Σ-times k n f) ∙ dist k (Σ n f) (f n)

pub Σ_by : (n : ℕ) (f : ℕ → ℤ) (k : ℤ) → Σ n (λ i. f i *ℤ k) ≡ Σ n f *ℤ k
Σ_by n f k = Σ_ext n (λ i. f i *ℤ k) (λ i. k *ℤ f i) (λ i b. *ℤ_comm (f i) k) ∙ Σ-times k n f ∙ *ℤ_comm k (Σ n f)

pub Σ-zero : (n : ℕ) → Σ n (λ i. pos 0) ≡ pos 0
unfolding Σ fold
Σ-zero zero = refl
Σ-zero (suc n) = ap (λ z. z +ℤ pos 0) (Σ-zero n)

-- the first n terms, and the m after them
pub Σ-split : (n m : ℕ) (f : ℕ → ℤ) → Σ (n + m) f ≡ Σ n f +ℤ Σ m (λ k. f (n + k))
unfolding Σ fold
Σ-split n zero f = let e : n + 0 ≡ n = omega arith in ap (λ (k : ℕ). Σ k f) e ∙ sym (+ℤ_idr (Σ n f))
Σ-split n (suc m) f =
    let e : n + suc m ≡ suc (n + m) = omega arith in
    ap (λ (k : ℕ). Σ k f) e
    ∙ ap (λ z. z +ℤ f (n + m)) (Σ-split n m f)
    ∙ plus_assoc (Σ n f) (Σ m (λ k. f (n + k))) (f (n + m))
  where
    plus_assoc : (a b c : ℤ) → (a +ℤ b) +ℤ c ≡ a +ℤ (b +ℤ c)
    plus_assoc = split _ λ a b. split _ λ c d. split _ λ e f. simp diff (omega arith)

-- the sums of a table, by its columns or by its rows
pub Σ_swap : (n m : ℕ) (f : ℕ → ℕ → ℤ) → Σ n (λ i. Σ m (λ j. f i j)) ≡ Σ m (λ j. Σ n (λ i. f i j))
unfolding Σ fold
Σ_swap zero m f = sym (Σ-zero m)
Σ_swap (suc n) m f = ap (λ z. z +ℤ Σ m (λ j. f n j)) (Σ_swap n m f) ∙ sym (Σ-plus m (λ j. Σ n (λ i. f i j)) (λ j. f n j))

-- Kronecker's delta, times c: c where j is i, 0 elsewhere; summed over i it is the c of j
abbrev pub delta : (j i : ℕ) (c : ℤ) → ℤ
delta j i c = cond (eqb j i) c (pos 0)

pub delta-same : (j i : ℕ) (c : ℤ) → j ≡ i → delta j i c ≡ c
delta-same j i c e = rw (eq-eqb j i e)

pub delta_other : (j i : ℕ) (c : ℤ) → (j ≡ i → ⊥) → delta j i c ≡ pos 0
delta_other j i c h = rw (ne_eqb j i h)

pub Σ-delta : (n j : ℕ) (f : ℕ → ℤ) → j < n → Σ n (λ i. delta j i (f i)) ≡ f j
unfolding Σ fold
Σ-delta zero j f h = absurd (not-suc-le-zero h)
Σ-delta (suc n) j f h = go (eq-or-lt_of_le (le_of_suc-le-suc h)) (Σ-delta n j f)
  where
    none : j ≡ n → Σ n (λ i. delta j i (f i)) ≡ pos 0
    none e = Σ_ext n (λ i. delta j i (f i)) (λ i. pos 0) (λ i b. delta_other j i (f i) (λ q. omega arith)) ∙ Σ-zero n

    go : (j ≡ n) ⊎ (j < n) → (j < n → Σ n (λ i. delta j i (f i)) ≡ f j) → Σ n (λ i. delta j i (f i)) +ℤ delta j n (f n) ≡ f j
    go (inl e) ih = ap₂ ◌+ℤ◌ (none e) (subst (λ (m : ℕ). delta j m (f m) ≡ f j) e (delta-same j j (f j) refl)) ∙ +ℤ_idl (f j)
    go (inr l) ih = ap₂ ◌+ℤ◌ (ih l) (delta_other j n (f n) (λ q. omega arith)) ∙ +ℤ_idr (f j)

pub delta-times : (j i : ℕ) (c z : ℤ) → delta j i c *ℤ z ≡ delta j i (c *ℤ z)
delta-times j i c z = go (eqb j i)
  where
    go : (t : Bool) → cond t c (pos 0) *ℤ z ≡ cond t (c *ℤ z) (pos 0)
    go true = refl
    go false = zero-*ℤ z
