-- What the loops over a list's pairs, and over lists, write: a column, and the columns one after the other.
use Rattle.std.specs.Prelude.{◌≡◌, refl, ℕ, zero, suc, ◌+◌, ◌*◌, ◌<◌, ◌≤◌, length, take, set, pos, Float}
use Rattle.std.proofs.Common.{sym, ap, ◌∙◌, ⊎_elim, not-suc-le-zero, eq-or-lt_of_le, le_of_suc-le-suc, zero-mul, add-one, arith, take_at, take_all}
use mathlib.Core.List.{List, ◌++◌, append_assoc}
use Rattle.std.proofs.Math.Nat.{mul_comm}
use Rattle.std.proofs.Math.IntN.{+ℤ_idl, +ℤ_idr}
use Rattle.folds.specs.Fold.{tab, tab_m, over}
use Rattle.folds.specs.Tab.{set-tab, tab-same, length-tab_m}
use Rattle.folds.specs.Part.{part, with_part, length-part}
use Rattle.ints.specs.Sum.{Σ, Σ-empty, Σ-next, Σ_ext, Σ-zero, delta-same, delta_other}
use Rattle.arith.specs.Float.{f0}
use Rattle.vector.specs.Vector.{filled}
use Rattle.vector.specs.Laws.{length-filled, over-filled}
use Rattle.nearest.specs.Value.{fromℤ}
use Rattle.block.specs.Block.{Item, item}
use Rattle.block.specs.Gap.{coef_at}
use Rattle.block.specs.Laws.{coef_of-is}
use Rattle.block.specs.Ranges.{RangedList}
use Rattle.block_floats.specs.Entries.{zeros}
use Rattle.block_rows.specs.Rows.{column, columns}

-- ---- a list's column
-- of no pair
pub column-none : {y : List Float} (l : List Item) (n : ℕ) (o : List Float) → length o ≡ n → y ≡ over (filled n f0) o →
    y ≡ tab (length y) (λ i. fromℤ (Σ 0 (coef_at i l)))
column-none {y} l n o e t =
    let f : y ≡ filled n f0 = t ∙ over-filled n f0 o e in
    let g : length y ≡ n = ap length f ∙ length-filled n f0 in
    rw g (f ∙ zeros n ∙ tab-same n _ _ (λ i _. ap fromℤ (sym (Σ-empty (coef_at i l)))))

-- of all
pub column_end : {y : List Float} (l : List Item) (k m n : ℕ) → k ≡ length l → m ≡ n → y ≡ tab m (λ i. fromℤ (Σ k (coef_at i l))) → y ≡ column n l
unfolding column
column_end l k m n e f t = t ∙ rw (f, e) (tab-same n _ _ (λ i _. ap fromℤ (sym (coef_of-is i l))))

-- the words of a list rise: no pair before pair k has its word
module _ {n : ℕ} {l : List Item} (R : RangedList n l) where
  rises : (j k : ℕ) → j < k → k < length l → (item l j).word < (item l k).word
  rises j zero h b = absurd (not-suc-le-zero h)
  rises j (suc k) h b =
      let r : (item l k).word < (item l (suc k)).word = rw (add-one k) at (R.rising k (omega arith)) in
      ⊎_elim (λ (e : j ≡ k). rw e r) (λ (g : j < k). let p = rises j k g (omega arith) in omega arith) (eq-or-lt_of_le (le_of_suc-le-suc h))

  none-before : (k : ℕ) → k < length l → Σ k (coef_at (item l k).word l) ≡ pos 0
  none-before k b =
      Σ_ext k _ (λ _. pos 0)
      (λ j g. delta_other (item l j).word (item l k).word (item l j).coef (λ e. let p = rises j k g b in omega arith))
      ∙ Σ-zero k

  -- the coefficients of the first k pairs, and the next one's stored
  pub column_turn : {y : List Float} {v : Float} (k : ℕ) → k < length l → v ≡ fromℤ (item l k).coef →
      y ≡ tab n (λ i. fromℤ (Σ k (coef_at i l))) → set y (item l k).word v ≡ tab n (λ i. fromℤ (Σ (k + 1) (coef_at i l)))
  column_turn {v = v} k b e t =
      ap (λ (z : List Float). set z (item l k).word v) t
      ∙ set-tab n (item l k).word (λ i. fromℤ (Σ k (coef_at i l))) (λ i. fromℤ (Σ (k + 1) (coef_at i l))) v (R.named k b)
      (e ∙ ap fromℤ (sym here)) (λ i _ q. ap fromℤ (sym (there i q)))
    where
      here : Σ (k + 1) (coef_at (item l k).word l) ≡ (item l k).coef
      here =
          Σ-next k (coef_at (item l k).word l)
          ∙ rw (none-before k b, delta-same (item l k).word (item l k).word (item l k).coef refl) (+ℤ_idl (item l k).coef)

      there : (i : ℕ) → (i ≡ (item l k).word → ⊥) → Σ (k + 1) (coef_at i l) ≡ Σ k (coef_at i l)
      there i q =
          Σ-next k (coef_at i l) ∙ rw (delta_other (item l k).word i (item l k).coef (λ e. q (sym e))) (+ℤ_idr (Σ k (coef_at i l)))

-- ---- the columns of lists, one after the other: the first k, and the next one written in its part
pub rows-part : {A : Type 0} (e : List A) (n k : ℕ) → n + k * n ≤ length e → length (part (k * n) (n + k * n) e) ≡ n
rows-part e n k h = omega (arith, length-part (k * n) (n + k * n) e h)

module _ (n : ℕ) (list : ℕ → List Item) where
  pub columns-none : (e : List Float) → take (0 * n) e ≡ columns n 0 list
  unfolding columns tab_m
  columns-none e = rw (zero-mul n)

  columns-next : (k : ℕ) → columns n (k + 1) list ≡ columns n k list ++ column n (list k)
  unfolding columns column tab_m
  columns-next k = rw (add-one k)

  pub length-columns : (m : ℕ) → length (columns n m list) ≡ n * m
  unfolding columns
  length-columns m = length-tab_m n m _

  pub columns_turn : {l : List Item} {r : List Float} (e : List Float) (k : ℕ) → take (k * n) e ≡ columns n k list → list k ≡ l →
      r ≡ with_part (k * n) (n + k * n) e (column n l) → take ((k + 1) * n) r ≡ columns n (k + 1) list
  unfolding with_part
  columns_turn e k t q f =
      rw (f, t, ← q, ← append_assoc, ← columns-next k)
      (take_at (columns n (k + 1) list) _ ((k + 1) * n) (length-columns (k + 1) ∙ mul_comm n (k + 1)))

  pub columns_end : (e : List Float) (k m : ℕ) → k ≤ m → m ≤ k → length e ≡ n * m → take (k * n) e ≡ columns n k list → e ≡ columns n m list
  columns_end e k m p q l t =
      let z : k ≡ m = omega arith in
      let w : length e ≤ m * n = omega (arith, mul_comm n m) in
      sym (take_all (m * n) e w) ∙ (rw z at t)
