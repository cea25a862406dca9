-- Laws of the definitions: document 01's rank-one step, entry by entry.
use Rattle.std.specs.Prelude.{◌≡◌, refl, List, [], ◌∷◌, ℕ, zero, suc, ◌+◌, ◌*◌, ◌<◌, ◌≤◌, length, set}
use Rattle.std.proofs.Common.{sym, ◌∙◌, eq-or-lt_of_le, le_of_suc-le-suc, add-one, length-set}
use Rattle.std.proofs.Math.Path.{ap}
use Rattle.std.proofs.Math.Logic.{⊎_elim}
use native.Mathlib.Omega.{arith}
use Rattle.std.proofs.Math.Seq.{get_or-set_same, get_or-set_other}
use Rattle.std.specs.Float.Ieee.{Float, nan}
use Rattle.folds.specs.Fold.{span, span-none, span_turn, span_keep}
use Rattle.folds.specs.Part.{Two, two}
use Rattle.folds.specs.Steps.{span_by}
use Rattle.folds.specs.Decide.{same-or-not}
use Rattle.arith.specs.Float.{fadd, fsub, fmul, fdiv, at, sqrt}
use Rattle.columns.specs.Columns.{cell, put}
use Rattle.columns.specs.Laws.{place-same, put-same, put-row, put-column}
use Rattle.rank_one.specs.RankOne.{rank_row, rank_rows, new_diagonal, rank_column, rank_one, factor_of}

abbrev pub Pair : Type 0
Pair = Two (List Float) (List Float)

abbrev pub vector_of : Pair → List Float
vector_of (two l v) = v

-- long enough for n variables
abbrev pub Wide : (n : ℕ) → Pair → Type 0
Wide n x = (n * n ≤ length (factor_of x)) × (n ≤ length (vector_of x))

-- ---- the rows of column j to row m
record Rows (n j : ℕ) (s t c : Float) (x : Pair) (m : ℕ) (y : Pair) : Type 0 where
  others : (i k : ℕ) → i < n → (k ≡ j → ⊥) → cell (factor_of y) n i k ≡ cell (factor_of x) n i k
  above : (i : ℕ) → i ≤ j → cell (factor_of y) n i j ≡ cell (factor_of x) n i j
  below : (i : ℕ) → j < i → i < m → i < n → cell (factor_of y) n i j ≡ fdiv (fadd (cell (factor_of x) n i j) (fmul (fmul s t) (at (vector_of x) i))) c
  vector : (i : ℕ) → j < i → i < m → i < n → at (vector_of y) i ≡ fsub (fmul c (at (vector_of x) i)) (fmul t (cell (factor_of y) n i j))
  rest : (i : ℕ) → j < i → m ≤ i → i < n → cell (factor_of y) n i j ≡ cell (factor_of x) n i j
  before : (i : ℕ) → i ≤ j → at (vector_of y) i ≡ at (vector_of x) i
  after : (i : ℕ) → m ≤ i → at (vector_of y) i ≡ at (vector_of x) i
  wide : Wide n y

module _ (n j : ℕ) (s t c : Float) (x : Pair) (q : j < n) (h : Wide n x) where
  row : (i : ℕ) (y : Pair) → j + 1 ≤ i → i < n → Rows n j s t c x i y → Rows n j s t c x (suc i) (rank_row n j s t c i y)
  unfolding rank_row
  row i (two l v) g p w =
      let u : Float = fdiv (fadd (cell l n i j) (fmul (fmul s t) (at v i))) c in
      let z : Float = fsub (fmul c (at v i)) (fmul t u) in
      let put-at : cell (put l n i j u) n i j ≡ u = put-same n i j u l n w.wide.0 p q in
      let set-at : at (set v i z) i ≡ z = get_or-set_same v i z nan (let k = w.wide.1 in omega arith) in
      let same : (k : ℕ) → (k ≡ i → ⊥) → at (set v i z) k ≡ at v k = λ k d. get_or-set_other v i k z nan d in
      let e : at v i ≡ at (vector_of x) i = w.after i (omega arith) in
      let f : cell l n i j ≡ cell (factor_of x) n i j = w.rest i (omega arith) (omega arith) p in
      record {
        others = λ k m a d. put-column n i j u l k m p a d ∙ w.others k m a d;
        above = λ k a. put-row n i j u l k j p (omega arith) (λ y. omega arith) ∙ w.above k a;
        below = λ k a b d. ⊎_elim
            (λ (y : k ≡ i). rw y (put-at ∙ rw (f, e)))
            (λ (y : k < i). put-row n i j u l k j p d (λ o. omega arith) ∙ w.below k a y d)
            (eq-or-lt_of_le (le_of_suc-le-suc b));
        vector = λ k a b d. ⊎_elim
            (λ (y : k ≡ i). rw y
            (set-at ∙ ap (λ (o : Float). fsub (fmul c o) (fmul t u)) e
            ∙ ap (λ (o : Float). fsub (fmul c (at (vector_of x) i)) (fmul t o)) (sym put-at)))
            (λ (y : k < i). same k (λ o. omega arith) ∙ rw (put-row n i j u l k j p d (λ o. omega arith)) (w.vector k a y d))
            (eq-or-lt_of_le (le_of_suc-le-suc b));
        rest = λ k a b d. put-row n i j u l k j p d (λ o. omega arith) ∙ w.rest k a (omega arith) d;
        before = λ k a. same k (λ o. omega arith) ∙ w.before k a;
        after = λ k a. same k (λ o. omega arith) ∙ w.after k (omega arith);
        wide = (rw (length-set l (i + j * n) u) w.wide.0, rw (length-set v i z) w.wide.1);
      }

  rows : Rows n j s t c x n (rank_rows n j s t c x)
  unfolding rank_rows
  rows = span_by (Rows n j s t c x) (j + 1) n (rank_row n j s t c) x (omega arith) start (λ i y a b w. row i y a b w)
    where
      start : Rows n j s t c x (j + 1) x
      start =
          record {
            others = λ i k a d. refl;
            above = λ i a. refl;
            below = λ i a b d. absurd (let o : j + 1 ≤ i = omega arith in omega arith);
            vector = λ i a b d. absurd (let o : j + 1 ≤ i = omega arith in omega arith);
            rest = λ i a b d. refl;
            before = λ i a. refl;
            after = λ i a. refl;
            wide = h;
          }

-- ---- column j: from x it makes y, with d the diagonal entry, r = root(d d + s v_j v_j), t = v_j / d and c = r / d
pub record Column (n : ℕ) (s : Float) (j : ℕ) (x y : Pair) : Type 0 where
  pub diagonal : cell (factor_of y) n j j ≡ new_diagonal n j s (factor_of x) (vector_of x)
  -- L_ij = (L_ij + s t v_i) / c
  pub below : (i : ℕ) → j < i → i < n → let d = cell (factor_of x) n j j in let r = new_diagonal n j s (factor_of x) (vector_of x) in
      cell (factor_of y) n i j ≡ fdiv (fadd (cell (factor_of x) n i j) (fmul (fmul s (fdiv (at (vector_of x) j) d)) (at (vector_of x) i))) (fdiv r d)
  -- v_i = c v_i - t L_ij with the new L_ij
  pub vector : (i : ℕ) → j < i → i < n → let d = cell (factor_of x) n j j in let r = new_diagonal n j s (factor_of x) (vector_of x) in
      at (vector_of y) i ≡ fsub (fmul (fdiv r d) (at (vector_of x) i)) (fmul (fdiv (at (vector_of x) j) d) (cell (factor_of y) n i j))
  -- the rest stays
  pub others : (i k : ℕ) → i < n → (k ≡ j → ⊥) → cell (factor_of y) n i k ≡ cell (factor_of x) n i k
  pub above : (i : ℕ) → i < j → cell (factor_of y) n i j ≡ cell (factor_of x) n i j
  pub before : (i : ℕ) → i ≤ j → at (vector_of y) i ≡ at (vector_of x) i
  pub wide : Wide n y

pub diagonal-is : (n j : ℕ) (s : Float) (l v : List Float) →
    new_diagonal n j s l v ≡ sqrt (fadd (fmul (cell l n j j) (cell l n j j)) (fmul (fmul s (at v j)) (at v j)))
unfolding new_diagonal
diagonal-is n j s l v = refl

pub rank_column-at : (n : ℕ) (s : Float) (j : ℕ) (x : Pair) → j < n → Wide n x → Column n s j x (rank_column n s j x)
unfolding rank_column
rank_column-at n s j (two l v) q (h, k) =
    let d : Float = cell l n j j in
    let r : Float = new_diagonal n j s l v in
    let z : List Float = put l n j j r in
    let w = rows n j s (fdiv (at v j) d) (fdiv r d) (two z v) q (rw (length-set l (j + j * n) r) h, k) in
    let other : (i : ℕ) → (i ≡ j → ⊥) → i < n → cell z n i j ≡ cell l n i j = λ i y a. put-row n j j r l i j q a y in
    record {
      diagonal = w.above j (omega arith) ∙ put-same n j j r l n h q q;
      below = λ i a b. rw (← other i (λ y. omega arith) b) (w.below i a b b);
      vector = λ i a b. w.vector i a b b;
      others = λ i m a y. w.others i m a y ∙ put-column n j j r l i m q a y;
      above = λ i a. w.above i (omega arith) ∙ other i (λ y. omega arith) (omega arith);
      before = λ i a. w.before i a;
      wide = w.wide;
    }

-- ---- the whole step: l and v as column j finds them, where columns p to j - 1 are changed
abbrev pub found : (n p : ℕ) (s : Float) → Pair → (j : ℕ) → Pair
found n p s x j = span p j (rank_column n s) x

-- the result is what a column after the last would find
pub rank_one-found : (n p : ℕ) (s : Float) (x : Pair) → rank_one n p s x ≡ found n p s x n
unfolding rank_one
rank_one-found n p s x = refl

-- column j of the result is made from x's column j and the v that column j finds; the columns below p, and what lies above the diagonal, are x's
record Changed (n p : ℕ) (s : Float) (x : Pair) (m : ℕ) (y : Pair) : Type 0 where
  is : y ≡ found n p s x m
  columns : (j : ℕ) → p ≤ j → j < m → (i : ℕ) → i < n → cell (factor_of y) n i j ≡ cell (factor_of (found n p s x (suc j))) n i j
  rest : (j : ℕ) → m ≤ j → (i : ℕ) → i < n → cell (factor_of y) n i j ≡ cell (factor_of x) n i j
  first : (j : ℕ) → j < p → (i : ℕ) → i < n → cell (factor_of y) n i j ≡ cell (factor_of x) n i j
  wide : Wide n y

module _ (n p : ℕ) (s : Float) (x : Pair) (h : Wide n x) where
  turn : (m : ℕ) (y : Pair) → p ≤ m → m < n → Changed n p s x m y → Changed n p s x (suc m) (rank_column n s m y)
  turn m y a b w =
      let c = rank_column-at n s m y b w.wide in
      let e : rank_column n s m y ≡ found n p s x (suc m) = rw (← add-one m) (span_turn p m (rank_column n s) x a w.is) in
      record {
        is = e;
        columns = λ j k l i g. ⊎_elim (λ (z : j ≡ m). rw (z, ← e)) (λ (z : j < m). c.others i j g (λ o. omega arith) ∙ w.columns j k z i g)
            (eq-or-lt_of_le (le_of_suc-le-suc l));
        rest = λ j k i g. c.others i j g (λ o. omega arith) ∙ w.rest j (omega arith) i g;
        first = λ j k i g. c.others i j g (λ o. omega arith) ∙ w.first j k i g;
        wide = c.wide;
      }

  changed : (m : ℕ) → p ≤ m → m ≤ n → Changed n p s x m (found n p s x m)
  changed m a b = span_by (Changed n p s x) p m (rank_column n s) x a start (λ k y l g w. turn k y l (omega arith) w)
    where
      start : Changed n p s x p x
      start =
          record {
            is = span-none p (rank_column n s) x;
            columns = λ j k l. absurd (let z : p ≤ j = k in omega arith);
            rest = λ j k i g. refl;
            first = λ j k i g. refl;
            wide = h;
          }

  -- what column j finds in its own column is x's
  pub found-column : (j i : ℕ) → p ≤ j → j ≤ n → i < n → cell (factor_of (found n p s x j)) n i j ≡ cell (factor_of x) n i j
  found-column j i a b g = (changed j a b).rest j (omega arith) i g

  -- from what column j finds to what the next one finds: document 01's step
  pub found-next : (j : ℕ) → p ≤ j → j < n → Column n s j (found n p s x j) (found n p s x (suc j))
  found-next j a b =
      let e : rank_column n s j (found n p s x j) ≡ found n p s x (suc j) = rw (← add-one j) (span_turn p j (rank_column n s) x a refl) in
      rw (← e) (rank_column-at n s j (found n p s x j) b (changed j a (omega arith)).wide)

  -- and the result has each column as its step left it
  pub rank_one-at : (i j : ℕ) → p ≤ j → j < n → i < n → cell (factor_of (rank_one n p s x)) n i j ≡ cell (factor_of (found n p s x (suc j))) n i j
  unfolding rank_one
  rank_one-at i j a b g = (changed n (omega arith) (omega arith)).columns j a b i g

  pub rank_one-first : (i j : ℕ) → p ≤ n → j < p → i < n → cell (factor_of (rank_one n p s x)) n i j ≡ cell (factor_of x) n i j
  unfolding rank_one
  rank_one-first i j a b g = (changed n a (omega arith)).first j b i g

-- ---- the diagonal: each entry keeps a property that NaN has, and root(d d + s v v) where d has it
module _ (n : ℕ) (s : Float) (P : Float → Type 0) (of_nan : P nan)
    (of-root : (d v : Float) → P d → P (sqrt (fadd (fmul d d) (fmul (fmul s v) v)))) where
  abbrev Diagonal : Pair → Type 0
  Diagonal x = (i : ℕ) → i < n → P (cell (factor_of x) n i i)

  -- an entry off the diagonal is written
  row-diagonal : (j : ℕ) (t c : Float) (i : ℕ) (x : Pair) → j + 1 ≤ i → i < n → Diagonal x → Diagonal (rank_row n j s t c i x)
  unfolding rank_row
  row-diagonal j t c i (two l v) g h d k q =
      rw (get_or-set_other l (i + j * n) (k + k * n) _ nan (λ e. let w = place-same n k k i j q h e in omega (arith, w.0, w.1))) (d k q)

  -- an entry on the diagonal is written, or lies past the list
  written : (l : List Float) (i : ℕ) (x : Float) → P x → P (at (set l i x) i)
  written [] i x h = of_nan
  written (y ∷ l) zero x h = h
  written (y ∷ l) (suc i) x h = written l i x h

  column-diagonal : (j : ℕ) (x : Pair) → j < n → Diagonal x → Diagonal (rank_column n s j x)
  unfolding rank_column rank_rows new_diagonal
  column-diagonal j (two l v) h d =
      let r : Float = new_diagonal n j s l v in
      let t : Float = fdiv (at v j) (cell l n j j) in
      let c : Float = fdiv r (cell l n j j) in
      span_keep Diagonal (j + 1) n (rank_row n j s t c) (two (put l n j j r) v)
      (λ i q. ⊎_elim (λ (z : i ≡ j). rw z (written l (j + j * n) r (of-root (cell l n j j) (at v j) (d j h))))
      (λ (k : i ≡ j → ⊥). rw (put-row n j j r l i i h q k) (d i q))
      (same-or-not i j))
      (λ i y a b w. row-diagonal j t c i y a b w)

  pub rank_one-diagonal : (p : ℕ) (x : Pair) → Diagonal x → Diagonal (rank_one n p s x)
  unfolding rank_one
  rank_one-diagonal p x d = span_keep Diagonal p n (rank_column n s) x d (λ j y a b w. column-diagonal j y b w)
