-- Laws of the definitions: a first state stands at a point or between two, and stays so where one variable is placed anew or all are freed.
use Rattle.std.specs.Prelude.{◌≡◌, refl, Bool, false, ◌||◌, ℕ, zero, suc, ◌<◌, ◌≤◌, List, length, take, set, get_or, Float, Option, Some, None, MatchOption, unwrap_or}
use Rattle.std.specs.Float.{nan}
use Rattle.std.proofs.Common.{sym, ap, subst, ◌∙◌, eq-or-lt_of_le, le_of_suc-le-suc, length-take-le, get_or-take, get_or-set_same, get_or-set_other}
use Rattle.std.proofs.Math.Bool.{true}
use Rattle.std.proofs.Math.Logic.{⊎_elim}
use native.Mathlib.Omega.{arith}
use Rattle.std.specs.Float.Ieee.{lt, le, eq}
use Rattle.folds.specs.Fold.{fold, fold_keep, tab, over, pick, pick_true, pick_false, pick_by, pick_keep, some, some_no, some_stop, false_true}
use Rattle.folds.specs.Decide.{same-or-not}
use Rattle.folds.specs.Position.{position, position_stop, position-lt}
use Rattle.folds.specs.Tab.{length-tab, get_d_tab, over_in}
use Rattle.arith.specs.Float.{at}
use Rattle.segments.specs.declared.Segments.{Segments}
use Rattle.segments.specs.declared.State.{State}
use Rattle.segments.specs.declared.State.TheVariants.{At, Free}
use Rattle.segments.specs.Segments.{last, Cut, IsFree, Placed, segments_at, state_at, AllCut, AllPlaced}
use Rattle.segments.specs.Start.{fixed, below, meets, inside, place, first}
use Rattle.segments.specs.Freeing.{freed, free_one, free_all}

-- what is not at or below isn't below
pub not-below : (a b : Float) → le a b ≡ false → lt a b ≡ false
unfolding le
not-below a b e = go (lt a b) (eq a b) e
  where
    go : (l q : Bool) → (l || q) ≡ false → l ≡ false
    go true q e = e
    go false q e = refl

module _ (s : Segments) (cut : Cut s) (x : Float) where
  -- x is below the last point, so the last point that is below x is another
  pub below-last : le (at s.points (last s)) x ≡ false → below s x < last s
  unfolding below
  below-last e =
      fold_keep (λ j. j < last s) s.count (λ p j. pick (lt (at s.points p) x) p j) 0 (omega arith)
      (λ p j h q. pick_by (λ j. j < last s) (lt (at s.points p) x) {x = p} {y = j} (λ t. another p h t) (λ _. q))
    where
      another : (p : ℕ) → p < s.count → lt (at s.points p) x ≡ true → p < last s
      another p h t =
          ⊎_elim (λ (z : p ≡ last s). absurd (false_true (sym (not-below (at s.points (last s)) x e) ∙ rw z at t)))
          (λ (l : p < last s). l)
          (eq-or-lt_of_le (let g : p ≤ last s = omega arith in g))

  inside-placed : le (at s.points (last s)) x ≡ false → Placed s (inside s x)
  unfolding inside
  inside-placed e =
      pick_by (Placed s) (some s.count (meets s x)) {x = At (position s.count (meets s x))} {y = Free (below s x)}
      (λ t. let h = position-lt s.count (meets s x) (sym t) in omega arith)
      (λ _. below-last e)

  pub place-placed : Placed s (place s x)
  unfolding place
  place-placed =
      pick_by (Placed s) (fixed s) {x = At 0} (λ _. omega arith)
      (λ _. pick_by (Placed s) (le x (at s.points 0)) {x = At 0} (λ _. omega arith)
      (λ _. pick_by (Placed s) (le (at s.points (last s)) x) {x = At (last s)} {y = inside s x} (λ _. omega arith) inside-placed))

-- ---- the code's searches among the points that count
-- the last number that passes
last-passing : (n i : ℕ) (q : ℕ → Bool) → i < n → q i ≡ true → ((k : ℕ) → i < k → k < n → q k ≡ false) → i ≡ fold n (λ p j. pick (q p) p j) 0
unfolding fold
last-passing zero i q l e h = absurd (omega arith)
last-passing (suc n) i q l e h =
    ⊎_elim (λ (z : i ≡ n). let t : q n ≡ true = rw z at e in pick_true (q n) _ t z)
    (λ (g : i < n). pick_false (q n) n (h n g (omega arith)) (last-passing n i q g e (λ k a b. h k a (omega arith))))
    (eq-or-lt_of_le (le_of_suc-le-suc l))

none-passing : (n : ℕ) (q : ℕ → Bool) → ((k : ℕ) → k < n → q k ≡ false) → 0 ≡ fold n (λ p j. pick (q p) p j) 0
unfolding fold
none-passing zero q h = refl
none-passing (suc n) q h = pick_false (q n) n (h n (omega arith)) (none-passing n q (λ k l. h k (omega arith)))

module _ (s : Segments) (room : s.count ≤ length s.points) (x : Float) {l : List Float} (e : l ≡ take s.count s.points) where
  counted : length l ≡ s.count
  counted = rw e (length-take-le s.count s.points room)

  read : (k : ℕ) → k < s.count → at l k ≡ at s.points k
  read k h = rw e (get_or-take s.count s.points k nan h)

  pub below-is : (o : Option ℕ) → MatchOption o ((k : ℕ) → k < length l → lt (at l k) x ≡ false)
      (λ i. (i < length l) × (lt (at l i) x ≡ true) × ((k : ℕ) → i < k → k < length l → lt (at l k) x ≡ false)) → unwrap_or o 0 ≡ below s x
  unfolding below
  below-is None h = none-passing s.count (λ k. lt (at s.points k) x) (λ k g. rw (← read k g) (h k (rw counted g)))
  below-is (Some i) h =
      let n = counted in
      let b : i < s.count = rw n at h.0 in
      last-passing s.count i (λ k. lt (at s.points k) x) b (rw (← read i b) h.1) (λ k a g. rw (← read k g) (h.2 k a (rw n g)))

  pub inside-at : (p : ℕ) → p < length l → eq (at l p) x ≡ true → ((k : ℕ) → k < p → eq (at l k) x ≡ false) → At p ≡ inside s x
  unfolding inside
  inside-at p h t f =
      let b : p < s.count = rw counted at h in
      let here : meets s x p ≡ true = rw (← read p b) t in
      let none = some_no p (meets s x) (λ k g. let d : k < s.count = omega arith in rw (← read k d) (f k g)) in
      pick_true _ _ (sym (some_stop p s.count (meets s x) b here)) (ap At (position_stop p s.count (meets s x) b (sym none) here))

  pub inside-free : ((k : ℕ) → k < length l → eq (at l k) x ≡ false) → Free (below s x) ≡ inside s x
  unfolding inside
  inside-free f = pick_false _ _ (some_no s.count (meets s x) (λ k g. rw (← read k g) (f k (rw counted g)))) refl

-- so do those of n variables that are made by index
module _ (n : ℕ) (segments : List Segments) (o r : List State) where
  pub tab-placed : (g : ℕ → State) → ((i : ℕ) → i < n → Placed (segments_at segments i) (g i)) →
      r ≡ over (tab n g) o → AllPlaced n segments r
  tab-placed g h q i l =
      let k : i < length (tab n g) = rw (length-tab n g) l in
      let e : state_at r i ≡ g i = ap (λ (t : List State). state_at t i) q ∙ over_in first (tab n g) o i k ∙ get_d_tab first n i g l in
      subst (λ (t : State). Placed (segments_at segments i) t) (sym e) (h i l)

-- ---- a held variable is not free, and a free one is in one segment, which lies between two points
pub held-not-free : (t : State) (p : ℕ) → t ≡ At p → IsFree t → ⊥
held-not-free t p e f = subst (λ (s : State). IsFree s) e f

pub free-same : (t : State) (j k : ℕ) → t ≡ Free j → t ≡ Free k → j ≡ k
free-same t j k e f = cc

pub free-within : (s : Segments) (t : State) (j : ℕ) → t ≡ Free j → Placed s t → j < last s
free-within s t j e h = subst (λ (u : State). Placed s u) e h

-- every variable stays placed where one is placed anew
module _ (n : ℕ) (segments : List Segments) (state : List State) (i : ℕ) (t : State) where
  abbrev after : List State
  after = set state i t

  pub set-placed : i < length state → Placed (segments_at segments i) t → AllPlaced n segments state →
      AllPlaced n segments (set state i t)
  set-placed l h p k g = ⊎_elim here there (same-or-not k i)
    where
      here : k ≡ i → Placed (segments_at segments k) (state_at after k)
      here z =
          let q : state_at after k ≡ t = rw z (get_or-set_same state i t first l) in
          subst (λ (u : State). Placed (segments_at segments k) u) (sym q) (subst (λ (a : ℕ). Placed (segments_at segments a) t) (sym z) h)

      there : (k ≡ i → ⊥) → Placed (segments_at segments k) (state_at after k)
      there f =
          let q : state_at after k ≡ state_at state k = get_or-set_other state i k t first f in
          subst (λ (u : State). Placed (segments_at segments k) u) (sym q) (p k g)

-- and where all are freed at once
freed-placed : (s : Segments) → Cut s → (t : State) → Placed s t → Placed s (freed t s)
unfolding freed
freed-placed s cut (At p) h = omega arith
freed-placed s cut (Free j) h = h

pub free-all-placed : (n : ℕ) (segments : List Segments) (fixed : List Bool) (state : List State) → AllCut n segments → AllPlaced n segments state →
    AllPlaced n segments (free_all n segments fixed state)
unfolding free_all
free-all-placed n segments fixed state cut placed =
    tab-placed n segments state (free_all n segments fixed state) (λ i. free_one (get_or fixed i false) (state_at state i) (segments_at segments i)) one
    refl
  where
    one : (i : ℕ) → i < n → Placed (segments_at segments i) (free_one (get_or fixed i false) (state_at state i) (segments_at segments i))
    one i l =
        unfold free_one in
        let s = segments_at segments i in
        pick_keep (Placed s) (get_or fixed i false) {x = state_at state i} {y = freed (state_at state i) s} (placed i l)
        (freed-placed s (cut i l) (state_at state i) (placed i l))
