-- `updated` by marks is `updated` on the source's lists: the held list is the marked ones in rising order.
use Rattle.std.specs.Prelude.{◌≡◌, Bool, List, ◌⊎◌, eqb, ltb, set, Float}
use Rattle.std.proofs.Math.Path.{refl, sym, ap}
use Rattle.std.proofs.Common.{subst, ◌∙◌, inl, inr, eq-or-lt_of_le, le_of_suc-le-suc, arith, lt-ltb, le-ltb, eq-eqb, ne_eqb}
use Rattle.std.proofs.Math.Bool.{true, false}
use Rattle.std.proofs.Math.Logic.{⊎_elim}
use Prim.Native.Nat.{ℕ, zero, suc, ◌<◌, ◌≤◌}
use Rattle.std.proofs.Math.Nat.{lt_of_lt_of_le}
use Rattle.std.proofs.Math.ListN.{length, length-set}
use Rattle.std.proofs.Math.Seq.{get_or-set_same, get_or-set_other}
use Rattle.folds.specs.Fold.{walk, then, pick, both, both_yes, both-first, both-second, false_true, Out, out}
use Rattle.folds.specs.Part.{Two}
use Rattle.folds.specs.Tab.{length-tab}
use Rattle.folds.specs.Chosen.{chosen, chosen-same, chosen-below, chosen-at, chosen-passes, count-one, count-none}
use Rattle.folds.specs.Marks.{contains, marked, marks, rising, place}
use Rattle.folds.specs.Marks.{place-held, marks-chosen, rising_inserted, rising-at}
use Rattle.sizes.specs.Sizes as Sizes
use Rattle.matrix.specs.Matrix.{index}
use Rattle.folds.specs.Decide.{lt-or-le, same-or-not}
use Rattle.cholesky.specs.Cholesky.{positive_definite}
use Rattle.variable_set.specs.Rising.{Rising}
use Rattle.variable_set.specs.Joining.{afresh}
use Rattle.variable_set.specs.Joining as Joining
use Rattle.variable_set.specs.Marked.{joining}
use Rattle.variable_set.specs.Laws.{joining-same}
use Rattle.leaving.specs.Leaving as Leaving
use Rattle.leaving.specs.Held.{Held, held, leaving}
use Rattle.leaving.specs.Lists.{Wide, source, wanted, wanted-is, leaving-same, left-wanted}
use Rattle.factor_update.specs.Factor.{get_is, joined_at, join_at}
use Rattle.factor_update.specs.Factor as Factor
use Rattle.factor_update.specs.Held.{joined, tested, join_one, joins, factor_of, updated}

module _ (o : ℕ) (few : o ≤ Sizes.originals) (w : ℕ → Bool) where
  abbrev want : List Bool
  want = wanted o few w

  -- ---- joining: below n the marks are those wanted, and none is held that is not wanted
  pub record Agree (n : ℕ) (s : Held) : Type 0 where
    pub wide : Wide s
    pub below : (j : ℕ) → j < n → marked s.marks j ≡ w j
    pub within : (j : ℕ) → j < o → marked s.marks j ≡ true → w j ≡ true

  abbrev pub AgreeOut : (n : ℕ) → Out Held → Type 0
  AgreeOut n (out true s) = Agree n s
  AgreeOut n (out false s) = Unit

  abbrev source_out : Out Held → Out (Two (List ℕ) (List Float))
  source_out (out ok s) = out ok (source o s)

  pub position-is : (n : ℕ) (s : Held) → Agree n s → length (chosen n w) ≡ place s.marks n
  unfolding place rising
  position-is n s a = sym (ap length (chosen-same n (λ t. marked s.marks t) w a.below))

  -- `held.get(position)` is the variable exactly where it is held
  get_held : (n : ℕ) (s : Held) → n < o → (b : Bool) → marked s.marks n ≡ b → get_is (rising o s.marks) (place s.marks n) n ≡ b
  unfolding get_is
  get_held n s h true e =
      let l : place s.marks n < length (rising o s.marks) = unfold place in place-held s.marks n o h e in
      both_yes (lt-ltb (place s.marks n) (length (rising o s.marks)) l)
      (eq-eqb (index (rising o s.marks) (place s.marks n)) n (rising-at o n s.marks h e))
  get_held n s h false e = go (place s.marks n) (lt-or-le (place s.marks n) (length (rising o s.marks)))
    where
      passes : (t : ℕ) → t < length (rising o s.marks) → marked s.marks (index (rising o s.marks) t) ≡ true
      passes t l = unfold rising in chosen-passes o (λ u. marked s.marks u) t (unfold rising in l)

      other : (t : ℕ) → t < length (rising o s.marks) → index (rising o s.marks) t ≡ n → ⊥
      other t l z = false_true (sym e ∙ (rw z at (passes t l)))

      go : (t : ℕ) → (t < length (rising o s.marks)) ⊎ (length (rising o s.marks) ≤ t) →
          both (ltb t (length (rising o s.marks))) (eqb (index (rising o s.marks) t) n) ≡ false
      go t (inl l) = both-second (ltb t (length (rising o s.marks))) (ne_eqb (index (rising o s.marks) t) n (other t l))
      go t (inr l) = both-first (eqb (index (rising o s.marks) t) n) (le-ltb t (length (rising o s.marks)) l)

  joined-same : (q : List Float) (m n : ℕ) (s : Held) → n < o → Wide s → marked s.marks n ≡ false →
      source_out (tested o (joined q m o n s)) ≡ joined_at q m (place s.marks n) n (source o s)
  unfolding tested joined joined_at
  joined-same q m n s h k e = unfold place in rw (← rising_inserted o n s.marks h (omega arith) e)

  join-step : (q : List Float) (m n : ℕ) (s : Held) → n < o → Agree n s → w n ≡ true →
      source_out (join_one q m o want n s) ≡ join_at q m (chosen o w) (length (chosen n w)) (source o s)
  unfolding join_one join_at
  join-step q m n s h a f =
      let z : marked want n ≡ true = wanted-is o few w n h ∙ f in
      rw (z, chosen-at o w n h f, position-is n s a) (go (marked s.marks n) refl)
    where
      go : (b : Bool) → marked s.marks n ≡ b → let p = place s.marks n in
          source_out (pick true (pick b (out true s) (tested o (joined q m o n s))) (out true s))
          ≡ pick (get_is (rising o s.marks) p n) (out true (source o s)) (joined_at q m p n (source o s))
      go true e = unfold pick in rw (get_held n s h true e)
      go false e = unfold pick in rw (get_held n s h false e) (joined-same q m n s h a.wide e)

  extend : (n : ℕ) (s : Held) → Agree n s → marked s.marks n ≡ w n → Agree (suc n) s
  extend n s a e =
      record {
        wide = a.wide;
        below = λ j h. ⊎_elim (λ (z : j ≡ n). rw z e) (λ (l : j < n). a.below j l) (eq-or-lt_of_le (le_of_suc-le-suc h));
        within = a.within;
      }

  agree_out : (n : ℕ) (s : Held) (b : Bool) → Agree n s → AgreeOut n (out b s)
  agree_out n s true a = a
  agree_out n s false a = tt

  joined_agree : (q : List Float) (m n : ℕ) (s : Held) → n < o → Agree n s → w n ≡ true → Agree (suc n) (joined q m o n s)
  unfolding joined
  joined_agree q m n s h a f =
      let here : marked (set s.marks n true) n ≡ true = get_or-set_same s.marks n true false (omega (arith, a.wide)) in
      record {
        wide = simp length-set a.wide;
        below = λ j l. ⊎_elim (λ (z : j ≡ n). rw z (here ∙ sym f))
            (λ (k : j < n). get_or-set_other s.marks n j true false (λ z. omega arith) ∙ a.below j k)
            (eq-or-lt_of_le (le_of_suc-le-suc l));
        within = λ j l e. ⊎_elim (λ (z : j ≡ n). rw z f)
            (λ (k : j ≡ n → ⊥). a.within j l (sym (get_or-set_other s.marks n j true false k) ∙ e))
            (same-or-not j n);
      }

  join_agree : (q : List Float) (m n : ℕ) (s : Held) → n < o → Agree n s → AgreeOut (suc n) (join_one q m o want n s)
  unfolding join_one
  join_agree q m n s h a = rw (wanted-is o few w n h) (go (w n) (marked s.marks n) refl refl)
    where
      go : (c b : Bool) → w n ≡ c → marked s.marks n ≡ b →
          AgreeOut (suc n) (pick c (pick b (out true s) (tested o (joined q m o n s))) (out true s))
      go true true f e = unfold pick in extend n s a (e ∙ sym f)
      go true false f e =
          let next : Held = joined q m o n s in
          unfold pick tested in agree_out (suc n) next (positive_definite next.factor (place next.marks o)) (joined_agree q m n s h a f)
      go false true f e = unfold pick in absurd (false_true (sym f ∙ a.within n h e))
      go false false f e = unfold pick in extend n s a (e ∙ sym f)

  -- a turn of the walk
  turn_agree : (q : List Float) (m n : ℕ) (r : Out Held) → n < o → AgreeOut n r → AgreeOut (suc n) (then (join_one q m o want n) r)
  turn_agree q m n (out true s) h a = join_agree q m n s h a
  turn_agree q m n (out false s) h a = tt

  turn_wanted : (q : List Float) (m n : ℕ) (r : Out Held) → n < o → AgreeOut n r → w n ≡ true →
      source_out (then (join_one q m o want n) r) ≡ then (join_at q m (chosen o w) (length (chosen n w))) (source_out r)
  turn_wanted q m n (out true s) h a f = join-step q m n s h a f
  turn_wanted q m n (out false s) h a f = refl

  turn_other : (q : List Float) (m n : ℕ) (r : Out Held) → n < o → w n ≡ false → source_out (then (join_one q m o want n) r) ≡ source_out r
  unfolding join_one pick
  turn_other q m n (out true s) h f = let z : marked want n ≡ false = wanted-is o few w n h ∙ f in rw z
  turn_other q m n (out false s) h f = refl

  pub join_agrees : (q : List Float) (m n : ℕ) (s : Held) → n ≤ o → Agree 0 s → AgreeOut n (walk n (join_one q m o want) s)
  unfolding walk
  join_agrees q m zero s h a = a
  join_agrees q m (suc n) s h a = turn_agree q m n (walk n (join_one q m o want) s) (omega arith) (join_agrees q m n s (omega arith) a)

  join-same : (q : List Float) (m n : ℕ) (s : Held) → n ≤ o → Agree 0 s →
      source_out (walk n (join_one q m o want) s) ≡ walk (length (chosen n w)) (join_at q m (chosen o w)) (source o s)
  unfolding walk
  join-same q m zero s h a = unfold chosen in refl
  join-same q m (suc n) s h a = go (join-same q m n s (omega arith) a) (w n) refl
    where
      go : source_out (walk n (join_one q m o want) s) ≡ walk (length (chosen n w)) (join_at q m (chosen o w)) (source o s) → (b : Bool) →
          w n ≡ b →
          source_out (then (join_one q m o want n) (walk n (join_one q m o want) s))
          ≡ walk (length (chosen (suc n) w)) (join_at q m (chosen o w)) (source o s)
      go e true f =
          rw (count-one n w f)
          (turn_wanted q m n (walk n (join_one q m o want) s) (omega arith) (join_agrees q m n s (omega arith) a) f
          ∙ ap (then (join_at q m (chosen o w) (length (chosen n w)))) e)
      go e false f = rw (count-none n w f) (turn_other q m n (walk n (join_one q m o want) s) (omega arith) f ∙ e)

  -- ---- what is left after `leaving` is wanted
  pub left_agree : (s : Held) → length s.marks ≡ Sizes.originals → Agree 0 (leaving o want s)
  left_agree s k =
      let a = left-wanted o few w s k in
      record { wide = a.wide; below = λ j h. absurd (omega arith); within = λ j h e. a.from j (omega arith) h e }

  -- ---- the whole
  factor-out : (r : Out Held) → factor_of r ≡ Factor.factor_of (source_out r)
  unfolding factor_of Factor.factor_of
  factor-out (out ok s) = refl

  joins-same : (q : List Float) (m : ℕ) (s : Held) → Agree 0 s →
      factor_of (joins q m o want s) ≡ Factor.factor_of (Factor.joins q m (chosen o w) (source o s))
  unfolding joins Factor.joins
  joins-same q m s a = factor-out (walk o (join_one q m o want) s) ∙ ap Factor.factor_of (join-same q m o s (omega arith) a)

-- of rising lists, what the marks give is what the source's lists give
module _ (q : List Float) (n o : ℕ) (few : o ≤ Sizes.originals) where
  chosen-updated : (r w : ℕ → Bool) (l : List Float) →
      updated q n o (marks Sizes.originals (chosen o r)) l (chosen o w) ≡ Factor.updated q n (chosen o r) l (chosen o w)
  unfolding updated Factor.updated
  chosen-updated r w l =
      let s : Held = held (marks Sizes.originals (chosen o r)) l in
      let k : length (marks Sizes.originals (chosen o r)) ≡ Sizes.originals = unfold marks in length-tab Sizes.originals (contains (chosen o r)) in
      let e : source o (leaving o (marks Sizes.originals (chosen o w)) s) ≡ Leaving.leaving (chosen o w) (chosen o r) l =
      leaving-same o few w s k ∙ rw (marks-chosen Sizes.originals o r few) in
      let j : joining (marks Sizes.originals (chosen o r)) (chosen o w) ≡ Joining.joining (chosen o r) (chosen o w) =
      joining-same (chosen o r) (chosen o w) (λ t h. lt_of_lt_of_le (chosen-below o w t h) few) in
      rw j
      (ap (λ x. pick (afresh (Joining.joining (chosen o r) (chosen o w)) (length (chosen o w))) (out false l) x)
      (joins-same o few w q n (leaving o (marks Sizes.originals (chosen o w)) s) (left_agree o few w s k)
      ∙ ap (λ x. Factor.factor_of (Factor.joins q n (chosen o w) x)) e))

  pub updated-same : (from indices : List ℕ) (l : List Float) → Rising o from → Rising o indices →
      updated q n o (marks Sizes.originals from) l indices ≡ Factor.updated q n from l indices
  updated-same from indices l r i =
      let Agree : List ℕ → List ℕ → Type 0 = λ x y. updated q n o (marks Sizes.originals x) l y ≡ Factor.updated q n x l y in
      subst (λ x. Agree x indices) r.is_chosen
      (subst (λ y. Agree (chosen o (contains from)) y) i.is_chosen (chosen-updated (contains from) (contains indices) l))
