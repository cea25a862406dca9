-- Steps that add whole numbers to the entries of a list. `Adds n a f d`: where the n entries of a list are whole numbers, f adds d i to entry i,
-- |d i| ≤ a, exactly, while no sum passes 2 ^ 53.
use Rattle.std.specs.Prelude.{◌≡◌, ℕ, zero, suc, ◌+◌, ◌*◌, ◌^◌, ◌<◌, ◌≤◌, List, ℤ, ◌+ℤ◌, refl, Float}
use Rattle.std.proofs.Common.{sym, ◌∙◌, le_trans, suc-mul, arith}
use Rattle.std.proofs.Math.Path.{ap}
use Rattle.std.proofs.Math.IntN.{+ℤ_idr, +ℤ_assoc}
use Rattle.std.specs.Float.Ieee.{nan}
use Rattle.folds.specs.Fold.{fold}
use Rattle.folds.specs.Tab.{set-tab, tab-same, get_d_tab}
use Rattle.ints.specs.Bound.{◌≼◌, ◌+b◌, loose, Σ-b, delta-b}
use Rattle.ints.specs.Sum.{Σ, Σ-empty, Σ-suc, delta, delta-same, delta_other}
use Rattle.arith.specs.Float.{fadd}
use Rattle.nearest.specs.Value.{fromℤ}
use Rattle.nearest.specs.Exact.{Stands, plus_exact}
use Rattle.block_floats.specs.Exact.{wholes}
use Rattle.block_cost.specs.Cost.{plus_at}

pub record Adds (n a : ℕ) (f : List Float → List Float) (d : ℕ → ℤ) : Type 0 where
  pub small : (i : ℕ) → d i ≼ a
  pub adds : (m : ℕ) (s : ℕ → ℤ) → m + a ≤ 2 ^ 53 → ((i : ℕ) → s i ≼ m) → f (wholes n s) ≡ wholes n (λ i. s i +ℤ d i)

pub adds_loose : {n a c : ℕ} {f : List Float → List Float} {d : ℕ → ℤ} → a ≤ c → Adds n a f d → Adds n c f d
adds_loose h p = record { small = λ i. loose h (p.small i); adds = λ m s l b. p.adds m s (omega arith) b }

-- one entry
module _ (n w : ℕ) (v : Float) (z : ℤ) (a : ℕ) (h : w < n) (stands : Stands v z) (small : z ≼ a) where
  one-added : (m : ℕ) (s : ℕ → ℤ) → m + a ≤ 2 ^ 53 → ((i : ℕ) → s i ≼ m) → plus_at (wholes n s) w v ≡ wholes n (λ i. s i +ℤ delta w i z)
  unfolding plus_at
  one-added m s l b =
      set-tab n w (λ i. fromℤ (s i)) (λ i. fromℤ (s i +ℤ delta w i z)) _ h
      (ap (λ (x : Float). fadd x v) (get_d_tab nan n w (λ i. fromℤ (s i)) h) ∙ plus_exact (s w) z (le_trans (b w).size (omega arith)) stands
      ∙ ap (λ (y : ℤ). fromℤ (s w +ℤ y)) (sym (delta-same w w z refl)))
      (λ i _ q. ap fromℤ (sym (ap (λ (y : ℤ). s i +ℤ y) (delta_other w i z (λ e. q (sym e))) ∙ +ℤ_idr (s i))))

  pub adds-one : Adds n a (λ x. plus_at x w v) (λ i. delta w i z)
  adds-one = record { small = λ i. delta-b w i small; adds = one-added }

-- m steps, one after the other
pub adds-all : (n a m : ℕ) (f : ℕ → List Float → List Float) (d : ℕ → ℕ → ℤ) → ((k : ℕ) → k < m → Adds n a (f k) (d k)) →
    Adds n (m * a) (λ x. fold m f x) (λ i. Σ m (λ k. d k i))
unfolding fold
adds-all n a m f d h = record { small = λ i. Σ-b m (λ k. d k i) (λ k l. (h k l).small i); adds = go m h }
  where
    go : (m : ℕ) → ((k : ℕ) → k < m → Adds n a (f k) (d k)) → (t : ℕ) (s : ℕ → ℤ) → t + m * a ≤ 2 ^ 53 → ((i : ℕ) → s i ≼ t) →
        fold m f (wholes n s) ≡ wholes n (λ i. s i +ℤ Σ m (λ k. d k i))
    go zero h t s l b = tab-same n _ _ (λ i _. ap fromℤ (sym (ap (λ (z : ℤ). s i +ℤ z) (Σ-empty (λ k. d k i)) ∙ +ℤ_idr (s i))))
    go (suc m) h t s l b =
        let e : suc m * a ≡ m * a + a = suc-mul m a in
        let r = go m (λ k q. h k (omega arith)) t s (omega arith) b in
        ap (f m) r
        ∙ (h m (omega arith)).adds (t + m * a) (λ i. s i +ℤ Σ m (λ k. d k i)) (omega arith)
        (λ i. b i +b Σ-b m (λ k. d k i) (λ k q. (h k (omega arith)).small i))
        ∙ tab-same n _ _ (λ i _. ap fromℤ (+ℤ_assoc (s i) (Σ m (λ k. d k i)) (d m i) ∙ ap (λ (z : ℤ). s i +ℤ z) (sym (Σ-suc m (λ k. d k i)))))
