-- Q and c are whole numbers of the block, exactly, and at most 2 ^ 40 in size. Document 01: "Q adds weight × coefficient products, c adds weight ×
-- target × coefficient": entry i j of Q is the sum of weight × coefficient i × coefficient j over the tempos, entry i of c that of weight × target ×
-- coefficient i. So no order of adding could give another float.
use Rattle.std.specs.Prelude.{◌≡◌, ℕ, ◌+◌, ◌*◌, ◌<◌, ◌≤◌, Bool, true, false, cond, List, length, ℤ, pos, ◌*ℤ◌, ◌==◌, refl, Float}
use Rattle.std.proofs.Common.{sym, ◌∙◌, ⊎_elim, le_refl, arith, lit≤}
use Rattle.std.proofs.Math.Path.{ap}
use Rattle.std.proofs.Math.IntN.{+ℤ_idl, zero-*ℤ, *ℤ-zero}
use Rattle.std.specs.Float.{nan}
use Rattle.folds.specs.Cell.{cell-lt}
use Rattle.folds.specs.Decide.{same-or-not}
use Rattle.folds.specs.Tab.{get_d_tab}
use Rattle.ints.specs.Bound.{◌≼◌, ◌*b◌, loose, pos_b}
use Rattle.ints.specs.Sum.{Σ, delta, Σ_ext, Σ-times, Σ_by, delta-same, delta_other}
use Rattle.arith.specs.Float.{fmul, f0, fromℕ, at}
use Rattle.vector.specs.Vector.{filled}
use Rattle.columns.specs.Laws.{place-same}
use Rattle.nearest.specs.Value.{fromℤ}
use Rattle.nearest.specs.Exact.{Stands, stands_from, stands_times}
use Rattle.block.specs.Block.{Block, Item, Tempo, tempo, item}
use Rattle.block.specs.Gap.{coef_of, coef_at}
use Rattle.block.specs.Laws.{coef_of-is}
use Rattle.block.specs.Ranges.{Ranged, RangedTempo, Short}
use Rattle.block.specs.Fits.{coef-b}
use Rattle.block_floats.specs.Entries.{zeros}
use Rattle.block_floats.specs.Exact.{Whole, within, also}
use Rattle.block_cost.specs.Cost.{add_row, add_products, hessian, add_targets, linear}
use Rattle.block_cost.specs.Adds.{Adds, adds_loose, adds-one, adds-all}

-- ---- what a tempo adds: its pairs k and m at entry e of Q, its pair k at entry i of c
product : ℕ → Tempo → ℕ → ℕ → ℕ → ℤ
product n t e k m =
    let p = item t.list k in
    let r = item t.list m in
    delta (p.word + r.word * n) e (pos t.weight *ℤ p.coef *ℤ r.coef)

aimed : Tempo → ℕ → ℕ → ℤ
aimed t i k = let p = item t.list k in delta p.word i (pos t.weight *ℤ t.target *ℤ p.coef)

module _ {n : ℕ} {t : Tempo} (R : RangedTempo n t) where
  abbrev l : List Item
  l = t.list

  abbrev weight : ℤ
  weight = pos t.weight

  abbrev short : Short l
  short = R.list.short

  weighted : (k : ℕ) → k < length l → weight *ℤ (item l k).coef ≼ 512
  weighted k h = pos_b R.weight *b coef-b short k h

  weighted_stands : (k : ℕ) → k < length l → Stands (fmul (fromℕ t.weight) (fromℤ (item l k).coef)) (weight *ℤ (item l k).coef)
  weighted_stands k h =
      stands_times (stands_from weight (within (pos_b R.weight) tt)) (stands_from (item l k).coef (within (coef-b short k h) tt))
      (within (weighted k h) tt)

  adds-row : (k : ℕ) → k < length l →
      Adds (n * n) 16384 (add_row n l (item l k).word (fmul (fromℕ t.weight) (fromℤ (item l k).coef))) (λ e. Σ (length l) (product n t e k))
  unfolding add_row product
  adds-row k h =
      adds_loose (let f = short.few in omega arith)
      (adds-all (n * n) 4096 (length l) _ (λ m e. product n t e k m)
      (λ m g.
      adds-one (n * n) _ _ (weight *ℤ (item l k).coef *ℤ (item l m).coef) 4096
      (cell-lt _ _ n n (n * n) (le_refl _) (R.list.named k h) (R.list.named m g))
      (stands_times (weighted_stands k h) (stands_from (item l m).coef (within (coef-b short m g) tt))
      (within (weighted k h *b coef-b short m g) tt))
      (weighted k h *b coef-b short m g)))

  adds_products : Adds (n * n) 65536 (add_products n t) (λ e. Σ (length l) (λ k. Σ (length l) (product n t e k)))
  unfolding add_products
  adds_products =
      adds_loose (let f = short.few in omega arith)
      (adds-all (n * n) 16384 (length l) _ (λ k e. Σ (length l) (product n t e k)) (λ k h. adds-row k h))

  target : t.target ≼ 8388608
  target = record { size = R.target }

  adds_targets : Adds n 17179869184 (add_targets t) (λ i. Σ (length l) (aimed t i))
  unfolding add_targets aimed
  adds_targets =
      adds_loose (let f = short.few in omega arith)
      (adds-all n 4294967296 (length l) _ (λ k i. aimed t i k)
      (λ k h.
      adds-one n _ _ (weight *ℤ t.target *ℤ (item l k).coef) 4294967296 (R.list.named k h)
      (stands_times
      (stands_times (stands_from weight (within (pos_b R.weight) tt)) (stands_from t.target (within target tt))
      (within (pos_b R.weight *b target) tt))
      (stands_from (item l k).coef (within (coef-b short k h) tt)) (within (pos_b R.weight *b target *b coef-b short k h) tt))
      (pos_b R.weight *b target *b coef-b short k h)))

-- ---- the sums, by the coefficients
delta-cell : (n a b i j : ℕ) (z : ℤ) → a < n → i < n → delta (a + b * n) (i + j * n) z ≡ delta a i (delta b j z)
delta-cell n a b i j z p q =
    ⊎_elim
    (λ (e : a ≡ i).
    ⊎_elim
    (λ (f : b ≡ j). delta-same (a + b * n) (i + j * n) z (rw (e, f)) ∙ sym (delta-same a i _ e ∙ delta-same b j z f))
    (λ (f : b ≡ j → ⊥).
    delta_other (a + b * n) (i + j * n) z (λ h. f (place-same n a b i j p q h).1) ∙ sym (delta-same a i _ e ∙ delta_other b j z f))
    (same-or-not b j))
    (λ (e : a ≡ i → ⊥). delta_other (a + b * n) (i + j * n) z (λ h. e (place-same n a b i j p q h).0) ∙ sym (delta_other a i _ e))
    (same-or-not a i)

delta_products : (a i b j : ℕ) (w x y : ℤ) → delta a i (delta b j (w *ℤ x *ℤ y)) ≡ w *ℤ delta a i x *ℤ delta b j y
delta_products a i b j w x y = go (a == i) (b == j)
  where
    go : (s t : Bool) → cond s (cond t (w *ℤ x *ℤ y) (pos 0)) (pos 0) ≡ w *ℤ cond s x (pos 0) *ℤ cond t y (pos 0)
    go true true = refl
    go true false = sym (*ℤ-zero (w *ℤ x))
    go false t = sym (ap (λ (z : ℤ). z *ℤ cond t y (pos 0)) (*ℤ-zero w) ∙ zero-*ℤ (cond t y (pos 0)))

delta-product : (a i : ℕ) (w x : ℤ) → delta a i (w *ℤ x) ≡ w *ℤ delta a i x
delta-product a i w x = go (a == i)
  where
    go : (s : Bool) → cond s (w *ℤ x) (pos 0) ≡ w *ℤ cond s x (pos 0)
    go true = refl
    go false = sym (*ℤ-zero w)

-- "weight × coefficient products": a tempo's at row i, column j, and "weight × target × coefficient" at i
unfoldable pub product_at : Tempo → (i j : ℕ) → ℤ
product_at t i j = pos t.weight *ℤ coef_of i t.list *ℤ coef_of j t.list

unfoldable pub target_at : Tempo → (i : ℕ) → ℤ
target_at t i = pos t.weight *ℤ t.target *ℤ coef_of i t.list

module _ {n : ℕ} {t : Tempo} (R : RangedTempo n t) (i : ℕ) where
  abbrev count : ℕ
  count = length t.list

  products_at : (j : ℕ) → i < n → Σ count (λ k. Σ count (product n t (i + j * n) k)) ≡ product_at t i j
  unfolding product product_at
  products_at j h =
      Σ_ext count _ (λ k. pos t.weight *ℤ coef_at i t.list k *ℤ coef_of j t.list)
      (λ k g.
      Σ_ext count _ (λ m. pos t.weight *ℤ coef_at i t.list k *ℤ coef_at j t.list m)
      (λ m _. delta-cell n (item t.list k).word (item t.list m).word i j _ (R.list.named k g) h
      ∙ delta_products (item t.list k).word i (item t.list m).word j (pos t.weight) (item t.list k).coef (item t.list m).coef)
      ∙ Σ-times (pos t.weight *ℤ coef_at i t.list k) count (coef_at j t.list)
      ∙ ap (λ (z : ℤ). pos t.weight *ℤ coef_at i t.list k *ℤ z) (sym (coef_of-is j t.list)))
      ∙ Σ_by count (λ k. pos t.weight *ℤ coef_at i t.list k) (coef_of j t.list)
      ∙ ap (λ (z : ℤ). z *ℤ coef_of j t.list)
      (Σ-times (pos t.weight) count (coef_at i t.list) ∙ ap (λ (z : ℤ). pos t.weight *ℤ z) (sym (coef_of-is i t.list)))

  targets_at : Σ count (aimed t i) ≡ target_at t i
  unfolding aimed target_at
  targets_at =
      Σ_ext count _ (λ k. pos t.weight *ℤ t.target *ℤ coef_at i t.list k)
      (λ k _. delta-product (item t.list k).word i (pos t.weight *ℤ t.target) (item t.list k).coef)
      ∙ Σ-times (pos t.weight *ℤ t.target) count (coef_at i t.list)
      ∙ ap (λ (z : ℤ). pos t.weight *ℤ t.target *ℤ z) (sym (coef_of-is i t.list))

-- ---- the lists
-- from zeros
summed : (n a : ℕ) (f : List Float → List Float) (d : ℕ → ℤ) → Adds n a f d → a ≤ 1099511627776 → (i : ℕ) → i < n
    → Whole (at (f (filled n f0)) i) (d i)
summed n a f d p h i l =
    record {
      is =
          ap (λ (x : List Float). at x i)
          (ap f (zeros n) ∙ p.adds 0 (λ _. pos 0) (omega (arith, h)) (λ _. record { size = lit≤ tt }))
          ∙ get_d_tab nan n i _ l ∙ ap fromℤ (+ℤ_idl (d i));
      small = loose h (p.small i);
    }

module _ {b : Block} (R : Ranged b) where
  abbrev n : ℕ
  n = length b.words

  pub whole-hessian : (i j : ℕ) → i < n → j < n → Whole (at (hessian b) (i + j * n)) (Σ (length b.tempos) (λ t. product_at (tempo b t) i j))
  unfolding hessian
  whole-hessian i j p q =
      also (Σ_ext (length b.tempos) _ _ (λ t h. products_at (R.each_tempo t h) i j p))
      (summed (n * n) (length b.tempos * 65536) _ _
      (adds-all (n * n) 65536 (length b.tempos) _ _ (λ t h. adds_products (R.each_tempo t h)))
      (let f = R.tempos in omega arith) (i + j * n) (cell-lt i j n n (n * n) (le_refl _) p q))

  pub whole-linear : (i : ℕ) → i < n → Whole (at (linear b) i) (Σ (length b.tempos) (λ t. target_at (tempo b t) i))
  unfolding linear
  whole-linear i l =
      also (Σ_ext (length b.tempos) _ _ (λ t h. targets_at (R.each_tempo t h) i))
      (summed n (length b.tempos * 17179869184) _ _
      (adds-all n 17179869184 (length b.tempos) _ _ (λ t h. adds_targets (R.each_tempo t h)))
      (let f = R.tempos in omega arith) i l)
