-- Laws of a rotation: A ← JᵀAJ, entry by entry.
use Rattle.std.specs.Prelude.{◌≡◌, refl, List, ℕ, suc, ◌+◌, ◌*◌, ◌<◌, ◌≤◌, length, set, Float}
use Rattle.std.proofs.Common.{sym, ◌∙◌, ⊎_elim, eq-or-lt_of_le, le_of_suc-le-suc, not-suc-le-zero, arith, length-set, get_or-set_same}
use Rattle.std.proofs.Math.Seq.{get_or-set_other}
use Rattle.std.specs.Float.Ieee.{nan}
use Rattle.folds.specs.Fold.{fold, fold_by}
use Rattle.folds.specs.Cell.{cell-lt}
use Rattle.arith.specs.Float.{fadd, fsub, fmul, f0, at}
use Rattle.columns.specs.Columns.{cell, put}
use Rattle.columns.specs.Laws.{place-same, put-same, put-row}
use Rattle.angle.specs.declared.Turn.{Turn}
use Rattle.rotation.specs.Rotation.{turn_in_row, turn_in_column, turn_columns, turn_rows, turned}

-- ---- a loop that changes the elements at f k and h k together, by u and w
abbrev pair : (f h : ℕ → ℕ) (u w : Float → Float → Float) → ℕ → List Float → List Float
pair f h u w k a = set (set a (f k) (u (at a (f k)) (at a (h k)))) (h k) (w (at a (f k)) (at a (h k)))

record Pairs (n : ℕ) (f h : ℕ → ℕ) (u w : Float → Float → Float) (a : List Float) (m : ℕ) (b : List Float) : Type 0 where
  first : (k : ℕ) → k < m → k < n → at b (f k) ≡ u (at a (f k)) (at a (h k))
  second : (k : ℕ) → k < m → k < n → at b (h k) ≡ w (at a (f k)) (at a (h k))
  rest : (k : ℕ) → m ≤ k → k < n → (at b (f k) ≡ at a (f k)) × (at b (h k) ≡ at a (h k))
  others : (x : ℕ) → ((k : ℕ) → k < n → (x ≡ f k → ⊥) × (x ≡ h k → ⊥)) → at b x ≡ at a x
  long : length b ≡ length a

module _ (n : ℕ) (f h : ℕ → ℕ) (u w : Float → Float → Float) (a : List Float) (inside : (k : ℕ) → k < n → (f k < length a) × (h k < length a))
    (one-f : (k l : ℕ) → k < n → l < n → f k ≡ f l → k ≡ l) (one-h : (k l : ℕ) → k < n → l < n → h k ≡ h l → k ≡ l)
    (apart : (k l : ℕ) → k < n → l < n → f k ≡ h l → ⊥) where
  next : (m : ℕ) (b : List Float) → m < n → Pairs n f h u w a m b → Pairs n f h u w a (suc m) (pair f h u w m b)
  next m b q s =
      let x : Float = u (at b (f m)) (at b (h m)) in
      let y : Float = w (at b (f m)) (at b (h m)) in
      let c : List Float = set b (f m) x in
      let z : List Float = set c (h m) y in
      let d : f m ≡ h m → ⊥ = λ e. apart m m q q e in
      let old : (k : ℕ) → (k ≡ f m → ⊥) → (k ≡ h m → ⊥) → at z k ≡ at b k =
      λ k g e. get_or-set_other c (h m) k y nan e ∙ get_or-set_other b (f m) k x nan g in
      let at_f : at z (f m) ≡ x =
      get_or-set_other c (h m) (f m) y nan d ∙ get_or-set_same b (f m) x nan (rw s.long (inside m q).0) in
      let at-h : at z (h m) ≡ y = get_or-set_same c (h m) y nan (rw (length-set b (f m) x, s.long) (inside m q).1) in
      let r = s.rest m (omega arith) q in
      let other_f : (k : ℕ) → k < n → (k ≡ m → ⊥) → at z (f k) ≡ at b (f k) =
      λ k g e. old (f k) (λ o. e (one-f k m g q o)) (λ o. apart k m g q o) in
      let other_h : (k : ℕ) → k < n → (k ≡ m → ⊥) → at z (h k) ≡ at b (h k) =
      λ k g e. old (h k) (λ o. apart m k q g (sym o)) (λ o. e (one-h k m g q o)) in
      record {
        first = λ k g l. ⊎_elim (λ (e : k ≡ m). rw e (at_f ∙ rw (r.0, r.1))) (λ (e : k < m). other_f k l (λ o. omega arith) ∙ s.first k e l)
            (eq-or-lt_of_le (le_of_suc-le-suc g));
        second = λ k g l. ⊎_elim (λ (e : k ≡ m). rw e (at-h ∙ rw (r.0, r.1))) (λ (e : k < m). other_h k l (λ o. omega arith) ∙ s.second k e l)
            (eq-or-lt_of_le (le_of_suc-le-suc g));
        rest = λ k g l. let o = s.rest k (omega arith) l in (other_f k l (λ e. omega arith) ∙ o.0, other_h k l (λ e. omega arith) ∙ o.1);
        others = λ k g. old k (g m q).0 (g m q).1 ∙ s.others k g;
        long = length-set c (h m) y ∙ length-set b (f m) x ∙ s.long;
      }

  pairs : Pairs n f h u w a n (fold n (pair f h u w) a)
  pairs = fold_by (Pairs n f h u w a) n (pair f h u w) a start (λ m b q s. next m b q s)
    where
      start : Pairs n f h u w a 0 a
      start =
          record {
            first = λ k g l. absurd (not-suc-le-zero g);
            second = λ k g l. absurd (not-suc-le-zero g);
            rest = λ k g l. (refl, refl);
            others = λ x g. refl;
            long = refl;
          }

-- ---- x and y become c x - s y and s x + c y
abbrev pub turn_first : Turn → (x y : Float) → Float
turn_first t x y = fsub (fmul t.c x) (fmul t.s y)

abbrev pub turn_second : Turn → (x y : Float) → Float
turn_second t x y = fadd (fmul t.s x) (fmul t.c y)

module _ (n p q : ℕ) (t : Turn) (a : List Float) (size : n * n ≤ length a) (P : p < n) (Q : q < n) (differ : p ≡ q → ⊥) where
  by_columns : Pairs n (λ k. k + p * n) (λ k. k + q * n) (turn_first t) (turn_second t) a n (turn_columns n p q t a)
  unfolding turn_columns turn_in_row
  by_columns =
      pairs n (λ k. k + p * n) (λ k. k + q * n) (turn_first t) (turn_second t) a
      (λ k g. (cell-lt k p n n (length a) size g P, cell-lt k q n n (length a) size g Q))
      (λ k l g m e. omega arith) (λ k l g m e. omega arith) (λ k l g m e. differ (place-same n k p l q g m e).1)

  by_rows : Pairs n (λ k. p + k * n) (λ k. q + k * n) (turn_first t) (turn_second t) a n (turn_rows n p q t a)
  unfolding turn_rows turn_in_column
  by_rows =
      pairs n (λ k. p + k * n) (λ k. q + k * n) (turn_first t) (turn_second t) a
      (λ k g. (cell-lt p k n n (length a) size P g, cell-lt q k n n (length a) size Q g))
      (λ k l g m e. (place-same n p k p l P P e).1) (λ k l g m e. (place-same n q k q l Q Q e).1) (λ k l g m e. differ (place-same n p k q l P Q e).0)

  -- columns p and q, and the others
  pub turn_columns-first : (k : ℕ) → k < n → cell (turn_columns n p q t a) n k p ≡ turn_first t (cell a n k p) (cell a n k q)
  turn_columns-first k g = by_columns.first k g g

  pub turn_columns-second : (k : ℕ) → k < n → cell (turn_columns n p q t a) n k q ≡ turn_second t (cell a n k p) (cell a n k q)
  turn_columns-second k g = by_columns.second k g g

  pub turn_columns_other : (i j : ℕ) → i < n → (j ≡ p → ⊥) → (j ≡ q → ⊥) → cell (turn_columns n p q t a) n i j ≡ cell a n i j
  turn_columns_other i j g d e =
      by_columns.others (i + j * n) (λ k l. ((λ o. d (place-same n i j k p g l o).1), (λ o. e (place-same n i j k q g l o).1)))

  pub length-turn_columns : length (turn_columns n p q t a) ≡ length a
  length-turn_columns = by_columns.long

  -- rows p and q, and the others
  pub turn_rows-first : (k : ℕ) → k < n → cell (turn_rows n p q t a) n p k ≡ turn_first t (cell a n p k) (cell a n q k)
  turn_rows-first k g = by_rows.first k g g

  pub turn_rows-second : (k : ℕ) → k < n → cell (turn_rows n p q t a) n q k ≡ turn_second t (cell a n p k) (cell a n q k)
  turn_rows-second k g = by_rows.second k g g

  pub turn_rows_other : (i j : ℕ) → i < n → (i ≡ p → ⊥) → (i ≡ q → ⊥) → cell (turn_rows n p q t a) n i j ≡ cell a n i j
  turn_rows_other i j g d e =
      by_rows.others (i + j * n) (λ k l. ((λ o. d (place-same n i j p k g P o).0), (λ o. e (place-same n i j q k g Q o).0)))

  pub length-turn_rows : length (turn_rows n p q t a) ≡ length a
  length-turn_rows = by_rows.long

-- ---- the whole: JᵀAJ, with the entries p, q and q, p set to 0
module _ (n p q : ℕ) (t : Turn) (a : List Float) (size : n * n ≤ length a) (P : p < n) (Q : q < n) (differ : p ≡ q → ⊥) where
  b : List Float
  b = turn_columns n p q t a

  d : List Float
  d = turn_rows n p q t b

  wide : n * n ≤ length b
  unfolding b
  wide = rw (length-turn_columns n p q t a size P Q differ) size

  long : n * n ≤ length d
  unfolding d
  long = rw (length-turn_rows n p q t b wide P Q differ) wide

  -- an entry that is not p, q nor q, p
  kept : (i j : ℕ) → i < n → (i ≡ p → j ≡ q → ⊥) → (i ≡ q → j ≡ p → ⊥) → cell (turned n p q t a) n i j ≡ cell d n i j
  unfolding turned b d
  kept i j g e f =
      get_or-set_other (put d n p q f0) (q + p * n) (i + j * n) f0 nan (λ o. let r = place-same n i j q p g Q o in f r.0 r.1)
      ∙ get_or-set_other d (p + q * n) (i + j * n) f0 nan (λ o. let r = place-same n i j p q g P o in e r.0 r.1)

  pub turned-zero : cell (turned n p q t a) n p q ≡ f0
  unfolding turned b d
  turned-zero = put-row n q p f0 (put d n p q f0) p q Q P differ ∙ put-same n p q f0 d n long P Q

  pub turned-zero-below : cell (turned n p q t a) n q p ≡ f0
  unfolding turned b d
  turned-zero-below = put-same n q p f0 (put d n p q f0) n (rw (length-set d (p + q * n) f0) long) Q P

  -- elsewhere in columns and rows p and q
  pub turned-column-first : (i : ℕ) → i < n → (i ≡ p → ⊥) → (i ≡ q → ⊥) → cell (turned n p q t a) n i p ≡ turn_first t (cell a n i p) (cell a n i q)
  unfolding b d
  turned-column-first i g e f =
      kept i p g (λ o r. e o) (λ o r. f o) ∙ turn_rows_other n p q t b wide P Q differ i p g e f ∙ turn_columns-first n p q t a size P Q differ i g

  pub turned-column-second : (i : ℕ) → i < n → (i ≡ p → ⊥) → (i ≡ q → ⊥) → cell (turned n p q t a) n i q ≡ turn_second t (cell a n i p) (cell a n i q)
  unfolding b d
  turned-column-second i g e f =
      kept i q g (λ o r. e o) (λ o r. f o) ∙ turn_rows_other n p q t b wide P Q differ i q g e f ∙ turn_columns-second n p q t a size P Q differ i g

  module _ (j : ℕ) (g : j < n) (e : j ≡ p → ⊥) (f : j ≡ q → ⊥) where
    row : (i : ℕ) → i < n → cell b n i j ≡ cell a n i j
    unfolding b
    row i h = turn_columns_other n p q t a size P Q differ i j h e f

    pub turned-row-first : cell (turned n p q t a) n p j ≡ turn_first t (cell a n p j) (cell a n q j)
    unfolding d
    turned-row-first = kept p j P (λ o r. f r) (λ o r. e r) ∙ turn_rows-first n p q t b wide P Q differ j g ∙ rw (row p P, row q Q)

    pub turned-row-second : cell (turned n p q t a) n q j ≡ turn_second t (cell a n p j) (cell a n q j)
    unfolding d
    turned-row-second = kept q j Q (λ o r. f r) (λ o r. e r) ∙ turn_rows-second n p q t b wide P Q differ j g ∙ rw (row p P, row q Q)

    -- away from both
    pub turned_other : (i : ℕ) → i < n → (i ≡ p → ⊥) → (i ≡ q → ⊥) → cell (turned n p q t a) n i j ≡ cell a n i j
    unfolding d
    turned_other i h k l = kept i j h (λ o r. k o) (λ o r. l o) ∙ turn_rows_other n p q t b wide P Q differ i j h k l ∙ row i h

  -- and on the diagonal
  pub turned-diagonal-first : cell (turned n p q t a) n p p ≡
      turn_first t (turn_first t (cell a n p p) (cell a n p q)) (turn_first t (cell a n q p) (cell a n q q))
  unfolding b d
  turned-diagonal-first =
      kept p p P (λ o r. differ r) (λ o r. differ o) ∙ turn_rows-first n p q t b wide P Q differ p P
      ∙ rw (turn_columns-first n p q t a size P Q differ p P, turn_columns-first n p q t a size P Q differ q Q)

  pub turned-diagonal-second : cell (turned n p q t a) n q q ≡
      turn_second t (turn_second t (cell a n p p) (cell a n p q)) (turn_second t (cell a n q p) (cell a n q q))
  unfolding b d
  turned-diagonal-second =
      kept q q Q (λ o r. differ (sym o)) (λ o r. differ (sym r)) ∙ turn_rows-second n p q t b wide P Q differ q Q
      ∙ rw (turn_columns-second n p q t a size P Q differ p P, turn_columns-second n p q t a size P Q differ q Q)
