-- Laws of the definitions: document 01's formulas, entry by entry, and lengths.
use Rattle.std.specs.Prelude.{◌≡◌, ℕ, suc, ◌+◌, ◌-◌, ◌<◌, ◌≤◌, length}
use Rattle.std.proofs.Math.Path.{refl, sym, ap}
use Rattle.std.proofs.Common.{◌∙◌, eq-or-lt_of_le, le_of_suc-le-suc, not-suc-le-zero, get_or-set_same}
use mathlib.Core.List.{List}
use Rattle.std.proofs.Math.Logic.{⊎_elim}
use native.Mathlib.Omega.{arith}
use Rattle.std.proofs.Math.ListN.{set, length-set}
use Rattle.std.proofs.Math.Seq.{get_or-set_other}
use Rattle.std.specs.Float.Ieee.{Float, nan}
use Rattle.folds.specs.Fold.{span, fold_by, fold_keep, fold-same, span-same}
use Rattle.arith.specs.Float.{fadd, fsub, fmul, fdiv, f0, at, sum}
use Rattle.arith.specs.Neutral.{sum-same}
use Rattle.vector.specs.Laws.{Same}
use Rattle.columns.specs.Columns.{cell}
use Rattle.triangular.specs.Triangular.{known, unknown, forward, known_below, unknown_back, backward, solve}

-- ---- lengths
pub length-forward : (k : ℕ) (l : List Float) (n : ℕ) (x : List Float) → length (forward k l n x) ≡ length x
unfolding forward unknown
length-forward k l n x = fold_keep (λ (y : List Float). length y ≡ length x) k (unknown l n) x refl (λ i y h p. length-set y _ _ ∙ p)

pub length-backward : (l : List Float) (n : ℕ) (x : List Float) → length (backward l n x) ≡ length x
unfolding backward unknown_back
length-backward l n x =
    fold_keep (λ (y : List Float). length y ≡ length x) n (λ t. unknown_back l n (n - 1 - t)) x refl (λ i y h p. length-set y _ _ ∙ p)

pub length-solve : (l : List Float) (n : ℕ) (x : List Float) → length (solve l n x) ≡ length x
unfolding solve
length-solve l n x = length-backward l n (forward n l n x) ∙ length-forward n l n x

-- ---- only what is known counts
pub known-same : (k : ℕ) (l : List Float) (n i : ℕ) (x y : List Float) → Same k x y → known k l n i x ≡ known k l n i y
unfolding known
known-same k l n i x y e = sum-same k _ _ (λ j h. rw (e j h))

below-same : (k : ℕ) (l : List Float) (n i : ℕ) (x y : List Float) → ((j : ℕ) → i + 1 ≤ j → j < k → at x j ≡ at y j) →
    known_below k l n i x ≡ known_below k l n i y
unfolding known_below
below-same k l n i x y e = span-same (i + 1) k _ _ f0 (λ j s p q. rw (e j p q))

-- ---- only the lower triangle counts
abbrev pub Lower : (n : ℕ) (a b : List Float) → Type 0
Lower n a b = (i j : ℕ) → j ≤ i → i < n → cell a n i j ≡ cell b n i j

module _ (n : ℕ) (a b : List Float) (e : Lower n a b) where
  pub known-lower : (k i : ℕ) (x : List Float) → k ≤ i + 1 → i < n → known k a n i x ≡ known k b n i x
  unfolding known
  known-lower k i x h p = sum-same k _ _ (λ j q. rw (e i j (omega arith) p))

  pub forward-lower : (k : ℕ) (x : List Float) → k ≤ n → forward k a n x ≡ forward k b n x
  unfolding forward unknown
  forward-lower k x h =
      fold-same k (unknown a n) (unknown b n) x (λ i y p. rw (known-lower i i y (omega arith) (omega arith), e i i (omega arith) (omega arith)))

  pub backward-lower : (x : List Float) → backward a n x ≡ backward b n x
  unfolding backward unknown_back known_below
  backward-lower x =
      fold-same n (λ t. unknown_back a n (n - 1 - t)) (λ t. unknown_back b n (n - 1 - t)) x
      (λ t y p. let k = n - 1 - t in
      let s : known_below n a n k y ≡ known_below n b n k y = span-same (k + 1) n _ _ f0 (λ j z u v. rw (e j k (omega arith) v)) in
      rw (s, e k k (omega arith) (omega arith)))

  pub solve-lower : (x : List Float) → solve a n x ≡ solve b n x
  unfolding solve
  solve-lower x = rw (forward-lower n x (omega arith)) (backward-lower (forward n b n x))

-- ---- l y = x: y_i is (x_i - the sum over j < i of l_ij y_j) / l_ii
module _ (l : List Float) (n : ℕ) (x : List Float) where
  abbrev ratio : ℕ → Float → Float → Float
  ratio i u s = fdiv (fsub u s) (cell l n i i)

  abbrev row : ℕ → List Float → Float
  row i y = ratio i (at x i) (known i l n i y)

  -- after k unknowns: those are solved, the others are x's
  abbrev Solved : ℕ → List Float → Type 0
  Solved k y = ((i : ℕ) → i < k → at y i ≡ row i y) × ((i : ℕ) → k ≤ i → at y i ≡ at x i) × (length y ≡ length x)

  solved : (k : ℕ) (y : List Float) → k < length x → Solved k y → Solved (suc k) (unknown l n k y)
  unfolding unknown
  solved k y h (p, q, e) =
      let v : Float = fdiv (fsub (at y k) (known k l n k y)) (cell l n k k) in
      let z : List Float = set y k v in
      let other : (i : ℕ) → (i ≡ k → ⊥) → at z i ≡ at y i = λ i d. get_or-set_other y k i v nan d in
      let same : (i : ℕ) → i ≤ k → known i l n i y ≡ known i l n i z = λ i m. known-same i l n i y z (λ j g. sym (other j (λ w. omega arith))) in (
        λ i m. ⊎_elim
            (λ (w : i ≡ k). rw w
            (get_or-set_same y k v nan (omega arith) ∙ ap (λ (u : Float). ratio k u (known k l n k y)) (q k (omega arith))
            ∙ ap (ratio k (at x k)) (same k (omega arith))))
            (λ (w : i < k). other i (λ u. omega arith) ∙ p i w ∙ ap (ratio i (at x i)) (same i (omega arith)))
            (eq-or-lt_of_le (le_of_suc-le-suc m)),
        λ i m. other i (λ w. omega arith) ∙ q i (omega arith),
        length-set y k v ∙ e,
      )

  pub forward-at : (k i : ℕ) → k ≤ length x → i < k → let y = forward k l n x in
      at y i ≡ fdiv (fsub (at x i) (sum i (λ j. fmul (cell l n i j) (at y j)))) (cell l n i i)
  unfolding forward known
  forward-at k i h m =
      (fold_by Solved k (unknown l n) x ((λ i u. absurd (not-suc-le-zero u)), (λ i u. refl), refl) (λ j y u s. solved j y (omega arith) s)).0 i m

  -- ---- (l transposed) y = x: y_i is (x_i - the sum over j > i of l_ji y_j) / l_ii
  abbrev column : ℕ → List Float → Float
  column i y = ratio i (at x i) (known_below n l n i y)

  -- after the last t unknowns
  abbrev SolvedBack : ℕ → List Float → Type 0
  SolvedBack t y = ((i : ℕ) → n - t ≤ i → i < n → at y i ≡ column i y) × ((i : ℕ) → i < n - t → at y i ≡ at x i) × (length y ≡ length x)

  solved_back : (t k : ℕ) (y : List Float) → k ≡ n - 1 - t → t < n → n ≤ length x → SolvedBack t y → SolvedBack (suc t) (unknown_back l n k y)
  unfolding unknown_back
  solved_back t k y f g h (p, q, e) =
      let v : Float = ratio k (at y k) (known_below n l n k y) in
      let z : List Float = set y k v in
      let other : (i : ℕ) → (i ≡ k → ⊥) → at z i ≡ at y i = λ i d. get_or-set_other y k i v nan d in
      let same : (i : ℕ) → k ≤ i → known_below n l n i y ≡ known_below n l n i z =
      λ i m. below-same n l n i y z (λ j a b. sym (other j (λ w. omega arith))) in (
        λ i a b. ⊎_elim
            (λ (w : k ≡ i). rw (← w)
            (get_or-set_same y k v nan (omega arith) ∙ ap (λ (u : Float). ratio k u (known_below n l n k y)) (q k (omega arith))
            ∙ ap (ratio k (at x k)) (same k (omega arith))))
            (λ (w : k < i). other i (λ u. omega arith) ∙ p i (omega arith) b ∙ ap (ratio i (at x i)) (same i (omega arith)))
            (eq-or-lt_of_le (omega arith)),
        λ i m. other i (λ w. omega arith) ∙ q i (omega arith),
        length-set y k v ∙ e,
      )

  pub backward-at : (i : ℕ) → n ≤ length x → i < n → let y = backward l n x in
      at y i ≡ fdiv (fsub (at x i) (span (i + 1) n (λ j s. fadd s (fmul (cell l n j i) (at y j))) f0)) (cell l n i i)
  unfolding backward known_below
  backward-at i h m =
      (fold_by SolvedBack n (λ t. unknown_back l n (n - 1 - t)) x ((λ i a b. absurd (let z : n ≤ i = omega arith in omega arith)), (λ i u. refl), refl)
      (λ t y u s. solved_back t (n - 1 - t) y refl u h s)).0 i (omega arith) m
