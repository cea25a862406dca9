-- Laws of the lists and marks: what a rising list is, how its marks are made, and how many join.
use Rattle.std.specs.Prelude.{◌≡◌, refl, length, set, replicate}
use Rattle.std.proofs.Math.Path.{sym}
use Rattle.std.proofs.Common.{◌∙◌, lt_of_lt_of_le, le_refl, eq-or-lt_of_le, le_of_suc-le-suc, arith, length-set, get_or-set_same, get_or-set_other, take_all}
use Rattle.std.proofs.Math.Bool.{Bool, true, false}
use mathlib.Core.List.{List}
use Rattle.std.proofs.Math.Logic.{⊎_elim}
use Prim.Native.Nat.{ℕ, zero, suc, ◌<◌, ◌≤◌}
use Rattle.std.proofs.Math.Dec.{eqb}
use Rattle.std.proofs.Math.ListN.{get_or}
use Rattle.std.proofs.lemmas.List.{length-replicate}
use borrow.Author.Tests.{eq-eqb, ne_eqb}
use Rattle.folds.specs.Fold.{fold, fold_keep, fold-same, some, some_no}
use Rattle.folds.specs.Tab.{tab-all, tab-same, get_d_tab}
use Rattle.folds.specs.Chosen.{chosen, length-chosen, count-none, chosen-below, chosen-same, chosen_lead}
use Rattle.folds.specs.Marks.{contains, marked, marks, rising, contains-chosen}
use Rattle.folds.specs.Decide.{same-or-not}
use Rattle.sizes.specs.Sizes as Sizes
use Rattle.vector.specs.Vector.{Below}
use Rattle.matrix.specs.Matrix.{index}
use Rattle.variable_set.specs.Rising.{Rising}
use Rattle.variable_set.specs.Joining as Joining
use Rattle.variable_set.specs.Marked.{count_if_new, joining}

-- ---- where none passes from o on, no more are chosen below n
count_past : (o n : ℕ) (p : ℕ → Bool) → ((i : ℕ) → o ≤ i → p i ≡ false) → o ≤ n → length (chosen n p) ≡ length (chosen o p)
count_past o zero p h l = let z : o ≡ 0 = omega arith in rw z
count_past o (suc n) p h l =
    ⊎_elim (λ (e : o ≡ suc n). rw e)
    (λ (k : o < suc n). count-none n p (h n (le_of_suc-le-suc k)) ∙ count_past o n p h (le_of_suc-le-suc k))
    (eq-or-lt_of_le l)

chosen_past : (o n : ℕ) (p : ℕ → Bool) → ((i : ℕ) → o ≤ i → p i ≡ false) → o ≤ n → chosen n p ≡ chosen o p
chosen_past o n p h l = sym (take_all (length (chosen o p)) (chosen n p) (omega (arith, count_past o n p h l))) ∙ chosen_lead o n p l

-- ---- rising lists
module _ (o : ℕ) (list : List ℕ) (r : Rising o list) where
  pub listed_few : length list ≤ o
  listed_few = rw r.is_chosen at (length-chosen o (contains list))

  pub listed_below : (n : ℕ) → o ≤ n → Below (length list) list n
  listed_below n l i h = lt_of_lt_of_le (rw r.is_chosen at (chosen-below o (contains list) i (rw r.is_chosen h))) l

  listed_not : (i : ℕ) → o ≤ i → contains list i ≡ false
  unfolding contains
  listed_not i h =
      some_no (length list) (λ t. eqb (index list t) i)
      (λ t l. ne_eqb (index list t) i (λ z. omega (arith, listed_below o (le_refl o) t l)))

  -- below any n from o up
  pub rising_wider : (n : ℕ) → o ≤ n → Rising n list
  rising_wider n l = record { is_chosen = chosen_past o n (contains list) listed_not l ∙ r.is_chosen }

pub rising-chosen : (o : ℕ) (p : ℕ → Bool) → Rising o (chosen o p)
rising-chosen o p = record { is_chosen = chosen-same o (contains (chosen o p)) p (contains-chosen o p) }

-- ---- marks
pub marked-marks : (n : ℕ) (list : List ℕ) (i : ℕ) → i < n → marked (marks n list) i ≡ contains list i
unfolding marks
marked-marks n list i h = get_d_tab false n i (contains list) h

-- as marks, and as a list again
pub marks-rising : (n : ℕ) (list : List ℕ) → Rising n list → rising n (marks n list) ≡ list
unfolding rising
marks-rising n list r = chosen-same n (λ i. marked (marks n list) i) (contains list) (marked-marks n list) ∙ r.is_chosen

none : (n i : ℕ) → get_or (replicate n false) i false ≡ false
none zero i = refl
none (suc n) zero = refl
none (suc n) (suc i) = none n i

-- the loop that makes them: a mark for each of the first k
module _ (n : ℕ) (list : List ℕ) where
  abbrev marking : ℕ → List Bool → List Bool
  marking t s = set s (index list t) true

  width : (k : ℕ) → length (fold k marking (replicate n false)) ≡ n
  width k =
      fold_keep (λ (s : List Bool). length s ≡ n) k marking (replicate n false) (length-replicate n false)
      (λ t s h e. length-set s (index list t) true ∙ e)

  mark-at : (k i : ℕ) → i < n → Below k list n → get_or (fold k marking (replicate n false)) i false ≡ some k (λ t. eqb (index list t) i)
  unfolding fold some
  mark-at zero i h b = none n i
  mark-at (suc k) i h b =
      let s : List Bool = fold k marking (replicate n false) in
      let p : ℕ → Bool = λ t. eqb (index list t) i in
      ⊎_elim
      (λ (e : index list k ≡ i).
      rw (eq-eqb (index list k) i e, e) (get_or-set_same s i true false (rw (width k) h)))
      (λ (d : index list k ≡ i → ⊥).
      rw (ne_eqb (index list k) i d)
      (get_or-set_other s (index list k) i true false (λ z. d (sym z)) ∙ mark-at k i h (λ t l. b t (omega arith))))
      (same-or-not (index list k) i)

  pub marks_made : {s : List Bool} → Below (length list) list n → s ≡ fold (length list) marking (replicate n false) → s ≡ marks n list
  unfolding marks contains
  marks_made b e =
      e ∙ sym (tab-all false n (fold (length list) marking (replicate n false)) (width (length list)))
      ∙ tab-same n (λ i. get_or (fold (length list) marking (replicate n false)) i false) (contains list) (λ i h. mark-at (length list) i h b)

-- ---- how many join
pub joining-same : (from indices : List ℕ) → ((t : ℕ) → t < length indices → index indices t < Sizes.originals) →
    joining (marks Sizes.originals from) indices ≡ Joining.joining from indices
unfolding joining Joining.joining count_if_new
joining-same from indices b =
    fold-same (length indices) _ _ 0 (λ t m h. rw (marked-marks Sizes.originals from (index indices t) (b t h)))
