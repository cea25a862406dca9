-- Only the lower triangle counts: from factors with the same lower triangle, leaving and joining make factors with the same lower triangle.
use Rattle.std.specs.Prelude.{◌≡◌, refl, Bool, true, false, eqb}
use Rattle.std.proofs.Math.Path.{sym, ap}
use Rattle.std.proofs.Common.{◌∙◌, eq-or-lt_of_le, length-set}
use mathlib.Core.List.{List}
use Rattle.std.proofs.Math.Logic.{⊎_elim}
use Prim.Native.Nat.{ℕ, ◌+◌, ◌-◌, ◌*◌, ◌<◌, ◌≤◌}
use native.Mathlib.Omega.{arith}
use Rattle.std.proofs.Math.Dec.{ltb}
use Rattle.std.proofs.Math.ListN.{length}
use Rattle.std.specs.Float.Ieee.{Float}
use borrow.Author.Tests.{ltb-false, eqb-false, lt-ltb, le-ltb}
use Rattle.folds.specs.Fold.{span_keep, span-same, tab_m, over, pick, pick_by, pick_true, pick_false}
use Rattle.folds.specs.Tab.{length-tab, length-tab_m, length-over, tab-same}
use Rattle.folds.specs.Cell.{area}
use Rattle.folds.specs.Part.{two}
use Rattle.folds.specs.Steps.{span-pair}
use Rattle.folds.specs.Decide.{same-or-not, lt-or-le}
use Rattle.arith.specs.Float.{fneg, f1, at}
use Rattle.vector.specs.Vector.{copy}
use Rattle.vector.specs.Laws.{Same, copy-same, length-copy}
use Rattle.columns.specs.Columns.{cell}
use Rattle.columns.specs.Laws.{cell-over, cell-tab_m}
use Rattle.triangular.specs.Triangular.{forward}
use Rattle.triangular.specs.Laws.{Lower, length-forward, known-lower, forward-lower}
use Rattle.rank_one.specs.RankOne.{new_diagonal, rank_column, rank_one, factor_of}
use Rattle.rank_one.specs.Laws.{Pair, vector_of, Wide, diagonal-is, rank_column-at, rank_one-found}
use Rattle.update.specs.Update.{staying, closed_entry, closed, removed_entry, removed, leave, remove_column}
use Rattle.update.specs.Update.{join_diagonal, join_below, joining, standing, joined_entry, joined, join, insert_column}

-- ---- the rank-one step
record Alike (n : ℕ) (x y : Pair) : Type 0 where
  lower : Lower n (factor_of x) (factor_of y)
  vector : Same n (vector_of x) (vector_of y)
  wide : Wide n x
  wide' : Wide n y

column_alike : (n : ℕ) (s : Float) (j : ℕ) (x y : Pair) → j < n → Alike n x y → Alike n (rank_column n s j x) (rank_column n s j y)
column_alike n s j x y q a =
    let c = rank_column-at n s j x q a.wide in
    let d = rank_column-at n s j y q a.wide' in
    let e : cell (factor_of x) n j j ≡ cell (factor_of y) n j j = a.lower j j (omega arith) q in
    let f : at (vector_of x) j ≡ at (vector_of y) j = a.vector j q in
    let r : new_diagonal n j s (factor_of x) (vector_of x) ≡ new_diagonal n j s (factor_of y) (vector_of y) =
    rw (diagonal-is n j s (factor_of x) (vector_of x), diagonal-is n j s (factor_of y) (vector_of y), e, f) in
    let below : (i : ℕ) → j < i → i < n → cell (factor_of (rank_column n s j x)) n i j ≡ cell (factor_of (rank_column n s j y)) n i j =
    λ i g h. rw (c.below i g h, d.below i g h, e, f, r, a.lower i j (omega arith) h, a.vector i h) in
    record {
      lower = λ i k g h. ⊎_elim
          (λ (z : k ≡ j). rw z
          (⊎_elim (λ (o : j ≡ i). rw (← o) (c.diagonal ∙ r ∙ sym d.diagonal)) (λ (o : j < i). below i o h) (eq-or-lt_of_le (rw z at g))))
          (λ (o : k ≡ j → ⊥). c.others i k h o ∙ a.lower i k g h ∙ sym (d.others i k h o))
          (same-or-not k j);
      vector = λ i h. ⊎_elim (λ (o : j < i). rw (c.vector i o h, d.vector i o h, e, f, r, below i o h, a.vector i h))
          (λ (o : i ≤ j). c.before i o ∙ a.vector i h ∙ sym (d.before i o))
          (lt-or-le j i);
      wide = c.wide;
      wide' = d.wide;
    }

one_alike : (n p : ℕ) (s : Float) (x y : Pair) → Alike n x y → Lower n (factor_of (rank_one n p s x)) (factor_of (rank_one n p s y))
one_alike n p s x y a =
    rw (rank_one-found n p s x, rank_one-found n p s y)
    (span-pair (Alike n) p n (rank_column n s) (rank_column n s) x y a (λ j x y l q b. column_alike n s j x y q b)).lower

-- ---- leaving
staying-low : (p i : ℕ) → i < p → staying p i ≡ i
unfolding staying pick
staying-low p i h = rw (lt-ltb i p h)

staying-high : (p i : ℕ) → p ≤ i → staying p i ≡ i + 1
unfolding staying pick
staying-high p i h = rw (le-ltb i p h)

module _ (n p : ℕ) (a b : List Float) (h : p ≤ n) (e : Lower (n + 1) a b) where
  entry-closed : (i j : ℕ) → j ≤ i → i < n → closed_entry n p a i j ≡ closed_entry n p b i j
  unfolding closed_entry
  entry-closed i j g q =
      ⊎_elim (λ (x : i < p). rw (staying-low p i x, staying-low p j (omega arith)) (e i j g (omega arith)))
      (λ (x : p ≤ i).
      ⊎_elim (λ (y : j < p). rw (staying-high p i x, staying-low p j y) (e (i + 1) j (omega arith) (omega arith)))
      (λ (y : p ≤ j). rw (staying-high p i x, staying-high p j y) (e (i + 1) (j + 1) (omega arith) (omega arith)))
      (lt-or-le j p))
      (lt-or-le i p)

  closed-lower : (o r : List Float) → Lower n (over (closed n p a) o) (over (closed n p b) r)
  unfolding closed
  closed-lower o r i j g q =
      let l : j < n = omega arith in
      let c : (g : ℕ → ℕ → Float) → n * n ≤ length (tab_m n n g) = λ g. rw (length-tab_m n n g) (omega arith) in
      cell-over n n i j q l (tab_m n n (closed_entry n p a)) o (c (closed_entry n p a)) ∙ cell-tab_m n n i j q l (closed_entry n p a)
      ∙ entry-closed i j g q
      ∙ sym (cell-over n n i j q l (tab_m n n (closed_entry n p b)) r (c (closed_entry n p b)) ∙ cell-tab_m n n i j q l (closed_entry n p b))

  pub removed-lower : removed n p a ≡ removed n p b
  unfolding removed removed_entry
  removed-lower =
      tab-same n (removed_entry n p a) (removed_entry n p b)
      (λ i q. pick_by (λ x. x ≡ removed_entry n p b i) (ltb i p) (λ (t : ltb i p ≡ true). pick_true (ltb i p) _ t refl)
      (λ (t : ltb i p ≡ false). pick_false (ltb i p) _ t (e (i + 1) p (let w = ltb-false i p t in omega arith) (omega arith))))

  leave-lower : (o r : List Float) → n * n ≤ length o → n * n ≤ length r → Lower n (leave n p a o) (leave n p b r)
  unfolding leave closed removed
  leave-lower o r u v =
      let m : (g : ℕ → ℕ → Float) → length (tab_m n n g) ≡ n * n = λ g. length-tab_m n n g in
      one_alike n p f1 (two (over (closed n p a) o) (removed n p a)) (two (over (closed n p b) r) (removed n p b))
      (record {
        lower = closed-lower o r;
        vector = λ k q. ap (λ (l : List Float). at l k) removed-lower;
        wide = (
          rw (length-over (tab_m n n (closed_entry n p a)) o (rw (m (closed_entry n p a)) u)) u,
          rw (length-tab n (removed_entry n p a)) (omega arith),
        );
        wide' = (
          rw (length-over (tab_m n n (closed_entry n p b)) r (rw (m (closed_entry n p b)) v)) v,
          rw (length-tab n (removed_entry n p b)) (omega arith),
        );
      })

pub remove_column-lower : (k p : ℕ) (a b : List Float) → p < k → k * k ≤ length a → k * k ≤ length b → Lower k a b →
    Lower (k - 1) (remove_column k p a) (remove_column k p b)
unfolding remove_column
remove_column-lower k p a b h u v e =
    let z : k - 1 + 1 ≡ k = omega arith in
    let l : k - 1 ≤ k = omega arith in
    let m : (k - 1) * (k - 1) ≤ k * k = area l l in
    leave-lower (k - 1) p a b (omega arith) (rw z e) a b (omega arith) (omega arith)

-- ---- joining
pub standing-low : (p i : ℕ) → i ≤ p → standing p i ≡ i
unfolding standing pick
standing-low p i h = rw (le-ltb p i h)

pub standing-high : (p i : ℕ) → p < i → standing p i ≡ i - 1
unfolding standing pick
standing-high p i h = rw (lt-ltb p i h)

length-joining : (n p : ℕ) (l q : List Float) → length (joining n p l q) ≡ length q
unfolding joining join_below join_diagonal
length-joining n p l q =
    span_keep (λ (x : List Float). length x ≡ length q) (p + 1) (n + 1) (join_below n p l) (join_diagonal p (forward p l n q))
    (length-set (forward p l n q) p _ ∙ length-forward p l n q) (λ i x g h w. length-set x i _ ∙ w)

-- the new row and column aside, an entry is read from the factor
pub joined_entry-same : (n p : ℕ) (a b x : List Float) (i j : ℕ) →
    ((i ≡ p → ⊥) → (j ≡ p → ⊥) → cell a n (standing p i) (standing p j) ≡ cell b n (standing p i) (standing p j)) →
    joined_entry n p a x i j ≡ joined_entry n p b x i j
unfolding joined_entry pick
joined_entry-same n p a b x i j h = go (eqb i p) (eqb j p) refl refl
  where
    go : (s t : Bool) → eqb i p ≡ s → eqb j p ≡ t →
        pick s (at x j) (pick t (at x i) (cell a n (standing p i) (standing p j)))
        ≡ pick s (at x j) (pick t (at x i) (cell b n (standing p i) (standing p j)))
    go true t u v = refl
    go false true u v = refl
    go false false u v = h (eqb-false i p u) (eqb-false j p v)

module _ (n p : ℕ) (a b : List Float) (h : p ≤ n) (e : Lower n a b) where
  pub joining-lower : (q : List Float) → joining n p a q ≡ joining n p b q
  unfolding joining join_below
  joining-lower q =
      rw (forward-lower n a b e p q h)
      (span-same (p + 1) (n + 1) (join_below n p a) (join_below n p b) (join_diagonal p (forward p b n q))
      (λ i x u v. rw (known-lower n a b e p (i - 1) x (omega arith) (omega arith))))

  placed : (i j : ℕ) → j ≤ i → i < n + 1 → (i ≡ p → ⊥) → (j ≡ p → ⊥) → cell a n (standing p i) (standing p j) ≡ cell b n (standing p i) (standing p j)
  placed i j g q c d =
      ⊎_elim
      (λ (x : p < i).
      ⊎_elim (λ (y : p < j). rw (standing-high p i x, standing-high p j y) (e (i - 1) (j - 1) (omega arith) (omega arith)))
      (λ (y : j ≤ p). let w : j < i = omega arith in rw (standing-high p i x, standing-low p j y) (e (i - 1) j (omega arith) (omega arith)))
      (lt-or-le p j))
      (λ (x : i ≤ p).
      let w : i < p = ⊎_elim (λ (y : i ≡ p). absurd (c y)) (λ (y : i < p). y) (eq-or-lt_of_le x) in
      rw (standing-low p i x, standing-low p j (omega arith)) (e i j g (omega arith)))
      (lt-or-le p i)

  entry-joined : (x : List Float) (i j : ℕ) → j ≤ i → i < n + 1 → joined_entry n p a x i j ≡ joined_entry n p b x i j
  entry-joined x i j g q = joined_entry-same n p a b x i j (placed i j g q)

  join-lower : (q o r : List Float) → (n + 1) * (n + 1) ≤ length o → (n + 1) * (n + 1) ≤ length r → Lower (n + 1) (join n p q a o) (join n p q b r)
  unfolding join joined
  join-lower q o r u v =
      let k = n + 1 in
      let x : List Float = joining n p a (copy k q) in
      let y : List Float = joining n p b (copy k q) in
      let z : x ≡ y = joining-lower (copy k q) in
      let long : (l : List Float) →
      k ≤ length (joining n p l (copy k q)) = λ l. rw (length-joining n p l (copy k q), length-copy k q) (omega arith) in
      let m : (g : ℕ → ℕ → Float) → length (tab_m k k g) ≡ k * k = λ g. length-tab_m k k g in
      let f : ℕ → ℕ → Float = joined_entry n p a x in
      let g : ℕ → ℕ → Float = joined_entry n p b y in
      let c : (g : ℕ → ℕ → Float) → k * k ≤ length (tab_m k k g) = λ g. rw (m g) (omega arith) in
      one_alike k (p + 1) (fneg f1) (two (over (tab_m k k f) o) x) (two (over (tab_m k k g) r) y)
      (record {
        lower = λ i j s t. let w : j < k = omega arith in
            cell-over k k i j t w (tab_m k k f) o (c f) ∙ cell-tab_m k k i j t w f ∙ entry-joined x i j s t
            ∙ ap (λ (l : List Float). joined_entry n p b l i j) z
            ∙ sym (cell-over k k i j t w (tab_m k k g) r (c g) ∙ cell-tab_m k k i j t w g);
        vector = λ i s. ap (λ (l : List Float). at l i) z;
        wide = (rw (length-over (tab_m k k f) o (rw (m f) u)) u, long a);
        wide' = (rw (length-over (tab_m k k g) r (rw (m g) v)) v, long b);
      })

pub insert_column-lower : (n p : ℕ) (q s a b : List Float) → p ≤ n → (n + 1) * (n + 1) ≤ length a → (n + 1) * (n + 1) ≤ length b → Same (n + 1) q s →
    Lower n a b →
    Lower (n + 1) (insert_column n p q a) (insert_column n p s b)
unfolding insert_column join
insert_column-lower n p q s a b h u v d e = rw (← copy-same (n + 1) q s d) (join-lower n p a b h e q a b u v)
