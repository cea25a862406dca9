-- Laws of the definitions: document 01's formulas, entry by entry.
use Rattle.std.specs.Prelude.{◌≡◌, refl, Bool, true, false, List, ℕ, suc, ◌+◌, ◌*◌, ◌<◌, ◌≤◌, length}
use Rattle.std.proofs.Math.Path.{sym, ap}
use Rattle.std.proofs.Common.{◌∙◌, eq-or-lt_of_le, le_of_suc-le-suc, not-suc-le-zero, arith}
use Rattle.std.proofs.Math.Logic.{⊎_elim}
use Rattle.std.proofs.Math.ListN.{length-set}
use Rattle.std.specs.Float.Ieee.{Float, lt}
use Rattle.folds.specs.Fold.{pick, out, false_true}
use Rattle.folds.specs.Steps.{span_by, walk_by}
use Rattle.folds.specs.Decide.{same-or-not}
use Rattle.arith.specs.Float.{fsub, fmul, fdiv, f0, sum, sqrt}
use Rattle.arith.specs.Neutral.{sum-same}
use Rattle.columns.specs.Columns.{cell, put}
use Rattle.columns.specs.Laws.{put-same, put-row, put-column}
use Rattle.cholesky.specs.Cholesky.{rows_dot, under_root, factor_entry, factor_below, factor_column, cholesky}

-- ---- the factor of a, column by column from its lower triangle
pub rows_dot-same : (k : ℕ) (a b : List Float) (n i j : ℕ) → ((t : ℕ) → t < k → cell a n i t ≡ cell b n i t) →
    ((t : ℕ) → t < k → cell a n j t ≡ cell b n j t) →
    rows_dot k a n i j ≡ rows_dot k b n i j
unfolding rows_dot
rows_dot-same k a b n i j e f = sum-same k _ _ (λ t h. rw (e t h, f t h))

-- column j of a with the diagonal r, to row m
record Below (n j : ℕ) (r : Float) (a : List Float) (m : ℕ) (b : List Float) : Type 0 where
  others : (i t : ℕ) → i < n → (t ≡ j → ⊥) → cell b n i t ≡ cell a n i t
  above : (i : ℕ) → i < j → cell b n i j ≡ cell a n i j
  diagonal : cell b n j j ≡ r
  below : (i : ℕ) → j < i → i < m → i < n → cell b n i j ≡ fdiv (fsub (cell a n i j) (rows_dot j a n i j)) r
  rest : (i : ℕ) → j < i → m ≤ i → i < n → cell b n i j ≡ cell a n i j
  long : length b ≡ length a

module _ (n j : ℕ) (r : Float) (a : List Float) (h : n * n ≤ length a) (q : j < n) where
  begun : Below n j r a (j + 1) (put a n j j r)
  begun =
      record {
        others = λ i t p d. put-column n j j r a i t q p d;
        above = λ i l. put-row n j j r a i j q (omega arith) (λ z. omega arith);
        diagonal = put-same n j j r a n h q q;
        below = λ i l k p. absurd (let z : suc j ≤ i = l in omega arith);
        rest = λ i l k p. put-row n j j r a i j q p (λ z. omega arith);
        long = length-set a (j + j * n) r;
      }

  entered : (i : ℕ) (b : List Float) → j + 1 ≤ i → i < n → Below n j r a i b → Below n j r a (suc i) (factor_entry n j r i b)
  unfolding factor_entry
  entered i b l p w =
      let v : Float = fdiv (fsub (cell b n i j) (rows_dot j b n i j)) r in
      let one : (k : ℕ) → k < n → (t : ℕ) → t < j → cell b n k t ≡ cell a n k t = λ k g t u. w.others k t g (λ z. omega arith) in
      let e : v ≡ fdiv (fsub (cell a n i j) (rows_dot j a n i j)) r =
      rw (w.rest i (omega arith) (omega arith) p, rows_dot-same j b a n i j (one i p) (one j q)) in
      record {
        others = λ k t g d. put-column n i j v b k t p g d ∙ w.others k t g d;
        above = λ k g. put-row n i j v b k j p (omega arith) (λ z. omega arith) ∙ w.above k g;
        diagonal = put-row n i j v b j j p q (λ z. omega arith) ∙ w.diagonal;
        below = λ k g m u. ⊎_elim
            (λ (z : k ≡ i). rw z (put-same n i j v b n (rw w.long h) p q ∙ e))
            (λ (z : k < i). put-row n i j v b k j p u (λ y. omega arith) ∙ w.below k g z u)
            (eq-or-lt_of_le (le_of_suc-le-suc m));
        rest = λ k g m u. put-row n i j v b k j p u (λ z. omega arith) ∙ w.rest k g (omega arith) u;
        long = length-set b (i + j * n) v ∙ w.long;
      }

  column-below : Below n j r a n (factor_below n j r a)
  unfolding factor_below
  column-below = span_by (Below n j r a) (j + 1) n (factor_entry n j r) (put a n j j r) (omega arith) begun (λ i b l p w. entered i b l p w)

-- the columns of l below k are those of a's factor; the others, and what lies above the diagonal, are a's
pub record Factored (n : ℕ) (a : List Float) (k : ℕ) (l : List Float) : Type 0 where
  -- l_jj = root(a_jj - the sum over t < j of l_jt l_jt), and what is under the root is above 0
  pub under : (j : ℕ) → j < k → lt f0 (fsub (cell a n j j) (sum j (λ t. fmul (cell l n j t) (cell l n j t)))) ≡ true
  pub diagonal : (j : ℕ) → j < k → cell l n j j ≡ sqrt (fsub (cell a n j j) (sum j (λ t. fmul (cell l n j t) (cell l n j t))))
  -- l_ij = (a_ij - the sum over t < j of l_it l_jt) / l_jj
  pub below : (i j : ℕ) → j < k → j < i → i < n →
      cell l n i j ≡ fdiv (fsub (cell a n i j) (sum j (λ t. fmul (cell l n i t) (cell l n j t)))) (cell l n j j)
  pub above : (i j : ℕ) → i < j → j < n → cell l n i j ≡ cell a n i j
  pub rest : (i j : ℕ) → k ≤ j → i < n → cell l n i j ≡ cell a n i j
  pub long : length l ≡ length a

passed : {a b : List Float} (t : Bool) (s : List Float) → out true b ≡ pick t (out true a) (out false s) → (t ≡ true) × (b ≡ a)
unfolding pick
passed {a} {b} true s e = (refl, let z : b ≡ a = cc in z)
passed {a} {b} false s e = absurd (false_true (let z : false ≡ true = cc in z))

module _ (n : ℕ) (a : List Float) (h : n * n ≤ length a) where
  next : (k : ℕ) (s t : List Float) → k < n → Factored n a k s → out true t ≡ factor_column n k s → Factored n a (suc k) t
  unfolding factor_column under_root rows_dot
  next k s t l w e =
      let r : Float = sqrt (under_root n k s) in
      let g = passed (lt f0 (under_root n k s)) s e in
      let c : Below n k r s n t = rw g.1 (column-below n k r s (rw w.long h) l) in
      let old : (i j : ℕ) → i < n → j < k → cell t n i j ≡ cell s n i j = λ i j p q. c.others i j p (λ z. omega arith) in
      let dots : (i j m : ℕ) → i < n → j < n → m ≤ k → rows_dot m s n i j ≡ rows_dot m t n i j =
      λ i j m p q u. rows_dot-same m s t n i j (λ x y. sym (old i x p (omega arith))) (λ x y. sym (old j x q (omega arith))) in
      let u : under_root n k s ≡ fsub (cell a n k k) (rows_dot k t n k k) = rw (w.rest k k (omega arith) l, dots k k k l l (omega arith)) in
      record {
        under =
            λ j q. ⊎_elim (λ (z : j ≡ k). rw z (rw u at g.0))
            (λ (z : j < k). rw (← dots j j j (omega arith) (omega arith) (omega arith)) (w.under j z)) (eq-or-lt_of_le (le_of_suc-le-suc q));
        diagonal = λ j q. ⊎_elim (λ (z : j ≡ k). rw z (c.diagonal ∙ ap sqrt u))
            (λ (z : j < k). old j j (omega arith) z ∙ rw (← dots j j j (omega arith) (omega arith) (omega arith)) (w.diagonal j z))
            (eq-or-lt_of_le (le_of_suc-le-suc q));
        below = λ i j q m p. ⊎_elim
            (λ (z : j ≡ k). rw z (c.below i (omega arith) p p ∙ rw (w.rest i k (omega arith) p, dots i k k p l (omega arith), c.diagonal)))
            (λ (z : j < k). old i j p z ∙ rw (← dots i j j p (omega arith) (omega arith), old j j (omega arith) z) (w.below i j z m p))
            (eq-or-lt_of_le (le_of_suc-le-suc q));
        above = λ i j m q. ⊎_elim
            (λ (z : j ≡ k). rw z (c.above i (omega arith) ∙ w.above i k (omega arith) l))
            (λ (d : j ≡ k → ⊥). c.others i j (omega arith) d ∙ w.above i j m q)
            (same-or-not j k);
        rest = λ i j q p. c.others i j p (λ z. omega arith) ∙ w.rest i j (omega arith) p;
        long = c.long ∙ w.long;
      }

  pub cholesky-at : (l : List Float) → out true l ≡ cholesky n a → Factored n a n l
  unfolding cholesky
  cholesky-at l e = walk_by (Factored n a) n (factor_column n) a start (λ k s t u w g. next k s t u w g) l e
    where
      start : Factored n a 0 a
      start =
          record {
            under = λ j q. absurd (not-suc-le-zero q);
            diagonal = λ j q. absurd (not-suc-le-zero q);
            below = λ i j q. absurd (not-suc-le-zero q);
            above = λ i j p q. refl;
            rest = λ i j p q. refl;
            long = refl;
          }
