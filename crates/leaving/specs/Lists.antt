-- `leaving` by marks is `leaving` on the source's lists: the held list is the marked ones in rising order.
use Rattle.std.specs.Prelude.{◌≡◌, Bool, List, length, Float}
use Rattle.std.proofs.Math.Path.{refl}
use Rattle.std.proofs.Common.{sym, ap, ◌∙◌, eq-or-lt_of_le, arith, get_or-set_same, get_or-set_other}
use Rattle.std.proofs.Math.Bool.{true, false}
use Rattle.std.proofs.Math.Logic.{⊎_elim}
use Prim.Native.Nat.{ℕ, zero, suc, ◌-◌, ◌<◌, ◌≤◌}
use Rattle.std.proofs.Math.ListN.{length-set}
use Rattle.folds.specs.Fold.{fold, fold-same, pick, pick_keep, false_true}
use Rattle.folds.specs.Part.{Two, two}
use Rattle.folds.specs.Chosen.{chosen}
use Rattle.folds.specs.Marks.{marked, marks, rising, place, remove}
use Rattle.folds.specs.Marks.{place-one, place-none, place_past, contains-chosen, marked-chosen, rising-removed, rising-at}
use Rattle.sizes.specs.Sizes as Sizes
use Rattle.update.specs.Update.{remove_column}
use Rattle.leaving.specs.Leaving.{leave_at}
use Rattle.leaving.specs.Leaving as Leaving
use Rattle.leaving.specs.Held.{Held, left, leave_one, leaving}

-- ---- a loop that goes down
unfoldable down : {A : Type 0} → ℕ → (ℕ → A → A) → A → A
down zero f a = a
down (suc n) f a = down n f (f n a)

fold-first : {A : Type 0} (n : ℕ) (f : ℕ → A → A) (a : A) → fold (suc n) f a ≡ fold n (λ t. f (suc t)) (f 0 a)
unfolding fold
fold-first zero f a = refl
fold-first (suc n) f a = ap (f (suc n)) (fold-first n f a)

fold-down : {A : Type 0} (n : ℕ) (f : ℕ → A → A) (a : A) → fold n (λ t. f (n - 1 - t)) a ≡ down n f a
unfolding down
fold-down zero f a = unfold fold in refl
fold-down (suc n) f a =
    let z : suc n - 1 - 0 ≡ n = omega arith in
    fold-first n (λ t. f (suc n - 1 - t)) a
    ∙ rw z
    (fold-same n (λ t. f (suc n - 1 - suc t)) (λ t. f (n - 1 - t)) (f n a)
    (λ t x l. let y : suc n - 1 - suc t ≡ n - 1 - t = omega arith in rw y)
    ∙ fold-down n f (f n a))

-- ---- the marks as the source's list
abbrev pub source : (o : ℕ) → Held → Two (List ℕ) (List Float)
source o s = two (rising o s.marks) s.factor

-- what one step of `leaving` keeps
abbrev pub Wide : Held → Type 0
Wide s = length s.marks ≡ Sizes.originals

leave-kept : (o n : ℕ) (wanted : List Bool) (s : Held) → Wide s →
    Wide (leave_one o wanted n s) × (place (leave_one o wanted n s).marks n ≡ place s.marks n)
unfolding leave_one left
leave-kept o n wanted s k =
    let Kept : Held → Type 0 = λ x. Wide x × (place x.marks n ≡ place s.marks n) in
    pick_keep Kept (marked s.marks n) {x = pick (marked wanted n) s (left o n s)} {y = s}
    (pick_keep Kept (marked wanted n) {x = s} {y = left o n s} (k, refl) (simp length-set k, place_past s.marks n n false (omega arith)))
    (k, refl)

module _ (o : ℕ) (few : o ≤ Sizes.originals) (w : ℕ → Bool) where
  abbrev pub wanted : List Bool
  wanted = marks Sizes.originals (chosen o w)

  pub wanted-is : (n : ℕ) → n < o → marked wanted n ≡ w n
  wanted-is n h = marked-chosen Sizes.originals o w n few h

  leave-held : (n : ℕ) (s : Held) → n < o → Wide s → marked s.marks n ≡ true →
      source o (leave_one o wanted n s) ≡ leave_at (chosen o w) (place s.marks n) (source o s)
  unfolding leave_one leave_at pick left
  leave-held n s h k e = rw (e, wanted-is n h, rising-at o n s.marks h e, contains-chosen o w n h) (go (w n))
    where
      go : (b : Bool) → let p = place s.marks n in let list = rising o s.marks in
          source o (pick b s (left o n s)) ≡ pick b (source o s) (two (remove p list) (remove_column (length list) p s.factor))
      go true = refl
      go false = unfold place in rw (rising-removed o n s.marks h (omega arith) e)

  leave_other : (n : ℕ) (s : Held) → marked s.marks n ≡ false → leave_one o wanted n s ≡ s
  unfolding leave_one pick
  leave_other n s e = rw e

  leave-same : (n : ℕ) (s : Held) → n ≤ o → Wide s →
      source o (down n (leave_one o wanted) s) ≡ down (place s.marks n) (leave_at (chosen o w)) (source o s)
  unfolding down
  leave-same zero s h k = unfold place rising chosen in refl
  leave-same (suc n) s h k =
      let kept = leave-kept o n wanted s k in
      leave-same n (leave_one o wanted n s) (omega arith) kept.0 ∙ rw kept.1 (go (marked s.marks n) refl)
    where
      go : (b : Bool) → marked s.marks n ≡ b →
          down (place s.marks n) (leave_at (chosen o w)) (source o (leave_one o wanted n s))
          ≡ down (place s.marks (suc n)) (leave_at (chosen o w)) (source o s)
      go true e = rw (place-one s.marks n e, leave-held n s (omega arith) k e)
      go false e = rw (place-none s.marks n e, leave_other n s e)

  -- `leaving` on the marks of a list is the source's loop on the list
  pub leaving-same : (s : Held) → Wide s →
      source o (leaving o (marks Sizes.originals (chosen o w)) s) ≡ Leaving.leaving (chosen o w) (rising o s.marks) s.factor
  unfolding leaving Leaving.leaving
  leaving-same s k =
      rw (fold-down o (leave_one o wanted) s, fold-down (length (rising o s.marks)) (leave_at (chosen o w)) (source o s))
      (unfold place in leave-same o s (omega arith) k)

  -- ---- what is left after `leaving` is wanted
  pub record Left (n : ℕ) (s : Held) : Type 0 where
    pub wide : Wide s
    pub from : (j : ℕ) → n ≤ j → j < o → marked s.marks j ≡ true → w j ≡ true

  left-one : (n : ℕ) (s : Held) → n < o → Left (suc n) s → Left n (leave_one o wanted n s)
  unfolding leave_one
  left-one n s h a = rw (wanted-is n h) (go (marked s.marks n) (w n) refl refl)
    where
      stays : (marked s.marks n ≡ true → w n ≡ true) → Left n s
      stays g =
          record {
            wide = a.wide;
            from = λ j l k e. ⊎_elim (λ (z : n ≡ j). rw (← z) (g (rw (← z) at e))) (λ (q : n < j). a.from j q k e) (eq-or-lt_of_le l);
          }

      go : (b c : Bool) → marked s.marks n ≡ b → w n ≡ c → Left n (pick b (pick c s (left o n s)) s)
      go true true e f = unfold pick in stays (λ _. f)
      go true false e f = unfold pick left in
          record {
            wide = simp length-set a.wide;
            from = λ j l k d. ⊎_elim
                (λ (z : n ≡ j). absurd (false_true (sym (get_or-set_same s.marks n false false (omega (arith, a.wide))) ∙ (rw (← z) at d))))
                (λ (q : n < j). a.from j q k (sym (get_or-set_other s.marks n j false false (λ z. omega arith)) ∙ d)) (eq-or-lt_of_le l);
          }
      go false c e f = unfold pick in stays (λ d. absurd (false_true (sym e ∙ d)))

  left-down : (n : ℕ) (s : Held) → n ≤ o → Left n s → Left 0 (down n (leave_one o wanted) s)
  unfolding down
  left-down zero s h a = a
  left-down (suc n) s h a = left-down n (leave_one o wanted n s) (omega arith) (left-one n s h a)

  pub left-wanted : (s : Held) → Wide s → Left 0 (leaving o wanted s)
  unfolding leaving
  left-wanted s k =
      let none : (j : ℕ) → o ≤ j → j < o → marked s.marks j ≡ true → w j ≡ true = λ j l h e. absurd (omega arith) in
      rw (fold-down o (leave_one o wanted) s) (left-down o s (omega arith) (record { wide = k; from = none }))
