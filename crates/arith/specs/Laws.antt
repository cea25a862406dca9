-- What the scalars' definitions tell.
use Rattle.std.specs.Prelude.{◌≡◌, ℕ, Bool, true, false, not, ◌⊎◌, ℤ, ◌≢◌, Float}
use Rattle.std.proofs.Math.Path.{refl}
use Rattle.std.proofs.Common.{sym, ◌∙◌, ⊎_elim}
use Rattle.std.proofs.Math.Logic.{inl, inr}
use borrow.Author.Tests.{not-true}
use Rattle.std.specs.Float.{nan, inf, fin}
use Rattle.std.specs.Float.Ieee.{is_nan, lt, eq}
use Rattle.folds.specs.Fold.{pick, pick_by, both, both_yes, both_true, false_true, false_of}
use Rattle.arith.specs.Scalar.{is_finite, negative, abs, clamp, max, min, total_less}
use Rattle.arith.specs.Compare.{lt_irrefl, lt_asym, lt-passes, lt-number, nan_before, nan_after, eq-not, eq-lt, eq-number, eq_trans}
use Rattle.arith.specs.Compare.{lt-passes_back}

-- ---- finite values
pub fin_finite : (s : Bool) (m : ℕ) (e : ℤ) → is_finite (fin s m e) ≡ true
unfolding is_finite
fin_finite s m e = refl

pub inf_finite : (s : Bool) → is_finite (inf s) ≡ false
unfolding is_finite
inf_finite s = refl

pub nan_finite : is_finite nan ≡ false
unfolding is_finite
nan_finite = refl

pub finite_by : (P : Float → Type 0) → ((s : Bool) (m : ℕ) (e : ℤ) → P (fin s m e)) → (x : Float) → is_finite x ≡ true → P x
unfolding is_finite
finite_by P f nan h = absurd (false_true h)
finite_by P f (inf s) h = absurd (false_true h)
finite_by P f (fin s m e) h = f s m e

pub finite-number : (x : Float) → is_finite x ≡ true → is_nan x ≡ false
unfolding is_nan
finite-number = finite_by (λ x. is_nan x ≡ false) (λ s m e. refl)

-- ---- the sign and the absolute value
pub abs-sign : (x : Float) → negative (abs x) ≡ false
unfolding abs negative
abs-sign nan = refl
abs-sign (inf s) = refl
abs-sign (fin s m e) = refl

-- ---- the larger and the smaller
module _ (a b : Float) where
  -- a NaN gives way
  pub max_nan_first : is_nan a ≡ true → max a b ≡ b
  unfolding max pick
  max_nan_first h = rw h

  pub max_nan_second : is_nan a ≡ false → is_nan b ≡ true → max a b ≡ a
  unfolding max pick
  max_nan_second h k = rw (h, nan_after a b k)

  pub max-first : is_nan a ≡ false → lt a b ≡ false → max a b ≡ a
  unfolding max pick
  max-first h k = rw (h, k)

  pub max-second : lt a b ≡ true → max a b ≡ b
  unfolding max pick
  max-second h = rw ((lt-number a b h).0, h)

  pub max-number : is_nan a ≡ false → is_nan (max a b) ≡ false
  unfolding max
  max-number h =
      pick_by (λ x. is_nan x ≡ false) (is_nan a) (λ k. absurd (false_true (sym h ∙ k)))
      (λ _. pick_by (λ x. is_nan x ≡ false) (lt a b) (λ l. (lt-number a b l).1) (λ _. h))

  -- neither is above the larger or below the smaller
  pub max-from-first : lt (max a b) a ≡ false
  unfolding max
  max-from-first =
      pick_by (λ x. lt x a ≡ false) (is_nan a) (λ h. nan_after b a h)
      (λ _. pick_by (λ x. lt x a ≡ false) (lt a b) (λ h. lt_asym a b h) (λ _. lt_irrefl a))

  pub max-from-second : lt (max a b) b ≡ false
  unfolding max
  max-from-second =
      pick_by (λ x. lt x b ≡ false) (is_nan a) (λ _. lt_irrefl b) (λ _. pick_by (λ x. lt x b ≡ false) (lt a b) (λ _. lt_irrefl b) (λ h. h))

  pub min_to_first : lt a (min a b) ≡ false
  unfolding min
  min_to_first =
      pick_by (λ x. lt a x ≡ false) (is_nan a) (λ h. nan_before a b h)
      (λ _. pick_by (λ x. lt a x ≡ false) (lt b a) (λ h. lt_asym b a h) (λ _. lt_irrefl a))

  pub min_to_second : lt b (min a b) ≡ false
  unfolding min
  min_to_second =
      pick_by (λ x. lt b x ≡ false) (is_nan a) (λ _. lt_irrefl b) (λ _. pick_by (λ x. lt b x ≡ false) (lt b a) (λ _. lt_irrefl b) (λ h. h))

-- ---- held between two
module _ (x lo hi : Float) where
  pub clamp-low : lt x lo ≡ true → clamp x lo hi ≡ lo
  unfolding clamp pick
  clamp-low h = rw h

  pub clamp-high : lt x lo ≡ false → lt hi x ≡ true → clamp x lo hi ≡ hi
  unfolding clamp pick
  clamp-high h k = rw (h, k)

  pub clamp-inside : lt x lo ≡ false → lt hi x ≡ false → clamp x lo hi ≡ x
  unfolding clamp pick
  clamp-inside h k = rw (h, k)

  -- of ends that are not crossed
  module _ (h : lt hi lo ≡ false) where
    pub clamp-from : lt (clamp x lo hi) lo ≡ false
    unfolding clamp
    clamp-from =
        pick_by (λ y. lt y lo ≡ false) (lt x lo) (λ _. lt_irrefl lo) (λ k. pick_by (λ y. lt y lo ≡ false) (lt hi x) (λ _. h) (λ _. k))

    pub clamp_to : lt hi (clamp x lo hi) ≡ false
    unfolding clamp
    clamp_to =
        pick_by (λ y. lt hi y ≡ false) (lt x lo) (λ _. h) (λ _. pick_by (λ y. lt hi y ≡ false) (lt hi x) (λ _. lt_irrefl hi) (λ k. k))

-- ---- the total order
module _ (a b : Float) where
  pub total_nan : is_nan a ≡ true → total_less a b ≡ false
  unfolding total_less pick
  total_nan h = rw h

  pub total-last : is_nan a ≡ false → is_nan b ≡ true → total_less a b ≡ true
  unfolding total_less pick
  total-last h k = rw (h, k)

  pub total-lt : lt a b ≡ true → total_less a b ≡ true
  unfolding total_less pick
  total-lt h = let n = lt-number a b h in rw (n.0, n.1, h)

  -- -0 is before +0
  pub total-zero : eq a b ≡ true → negative a ≡ true → negative b ≡ false → total_less a b ≡ true
  unfolding total_less pick
  total-zero h p q =
      let n = eq-number a b h in
      rw (n.0, n.1, (eq-lt a b h).0) (both_yes h (both_yes p (rw q)))

  -- what it tells of b, where b is a number
  pub total_told : total_less a b ≡ true → is_nan b ≡ false → (lt a b ≡ true) ⊎ ((eq a b ≡ true) × (negative a ≡ true) × (negative b ≡ false))
  unfolding total_less
  total_told h n = go (is_nan a) (lt a b) refl (rw n at h)
    where
      signs : both (eq a b) (both (negative a) (not (negative b))) ≡ true → (eq a b ≡ true) × (negative a ≡ true) × (negative b ≡ false)
      signs e =
          let p = both_true (eq a b) _ e in
          let q = both_true (negative a) _ p.1 in
          (p.0, q.0, not-true (negative b) q.1)

      go : (c d : Bool) → lt a b ≡ d → pick c false (pick false true (pick d true (both (eq a b) (both (negative a) (not (negative b)))))) ≡ true →
          (lt a b ≡ true) ⊎ ((eq a b ≡ true) × (negative a ≡ true) × (negative b ≡ false))
      go true d l e = absurd (false_true (unfold pick in e))
      go false true l e = inl l
      go false false l e = inr (signs (unfold pick in e))

  pub total-number : total_less a b ≡ true → is_nan a ≡ false
  total-number h = false_of (is_nan a) (λ e. false_true (sym (total_nan e) ∙ h))

  pub total-not : total_less a b ≡ false → is_nan a ≡ false → (is_nan b ≡ false) × (lt a b ≡ false)
  total-not h n =
      (false_of (is_nan b) (λ e. false_true (sym h ∙ total-last n e)), false_of (lt a b) (λ e. false_true (sym h ∙ total-lt e)))

pub total_asym : (a b : Float) → total_less a b ≡ true → total_less b a ≡ false
total_asym a b h = false_of (total_less b a) (λ k. ⊎_elim (less k) (equal k) (total_told a b h (total-number b a k)))
  where
    back : total_less b a ≡ true → (lt b a ≡ true) ⊎ ((eq b a ≡ true) × (negative b ≡ true) × (negative a ≡ false))
    back k = total_told b a k (total-number a b h)

    less : total_less b a ≡ true → lt a b ≢ true
    less k l = ⊎_elim (λ (g : lt b a ≡ true). false_true (sym (lt_asym a b l) ∙ g)) (λ g. false_true (sym (eq-lt b a g.0).1 ∙ l)) (back k)

    equal : total_less b a ≡ true → (eq a b ≡ true) × (negative a ≡ true) × (negative b ≡ false) → ⊥
    equal k l = ⊎_elim (λ (g : lt b a ≡ true). false_true (sym (eq-lt a b l.0).1 ∙ g)) (λ g. false_true (sym l.2 ∙ g.1)) (back k)

-- a is before b, and c is not
pub total-passes : (a b c : Float) → total_less a b ≡ true → total_less c b ≡ false → total_less a c ≡ true
total-passes a b c h k = go (is_nan c) refl
  where
    i : is_nan a ≡ false
    i = total-number a b h

    equal : is_nan c ≡ false → is_nan b ≡ false → lt c b ≡ false → eq a b ≡ true → negative a ≡ true → negative b ≡ false → (d : Bool) → lt b c ≡ d →
        total_less a c ≡ true
    equal j n l e p q true g = total-lt a c (lt-passes_back a b c i g (eq-lt a b e).1)
    equal j n l e p q false g =
        total-zero a c (eq_trans a b c e (eq-not b c n j g l)) p
        (false_of (negative c) (λ z. false_true (sym k ∙ total-zero c b (eq-not c b j n l g) z q)))

    number : is_nan c ≡ false → total_less a c ≡ true
    number j =
        let w = total-not c b k j in
        ⊎_elim (λ (l : lt a b ≡ true). total-lt a c (lt-passes a b c j l w.1)) (λ l. equal j w.0 w.1 l.0 l.1 l.2 (lt b c) refl)
        (total_told a b h w.0)

    go : (d : Bool) → is_nan c ≡ d → total_less a c ≡ true
    go true e = total-last a c i e
    go false e = number e

pub total_through : (a b c : Float) → total_less a b ≡ true → total_less b c ≡ true → total_less a c ≡ true
total_through a b c h k = total-passes a b c h (total_asym b c k)
