-- Laws of written times and prices. A time is a whole number at most half a sample away (`time-within-half`), a whole number is its own (`time_own`),
-- the order stays (`time_order`), and so does a whole window (`time-within`); what is out of range is in no window (`time-off`). A price is in range.
use Rattle.std.proofs.Math.Path.{◌≡◌, refl, ap, ap₂}
use Rattle.std.proofs.Common.{sym, ◌∙◌, subst, inl, inr, ⊎_elim, true≢false, add-one, arith, lit≤, length-append}
use Rattle.std.specs.Prelude.{◌⊎◌, Option, Some, None, Bool, cond, ℕ, zero, suc, ◌+◌, ◌^◌, ◌≤◌, ◌<◌, T, set, get_or, ℤ, negsuc, neg_ℤ, nat_abs, ◌*ℤ◌, ◌≤ℤ◌, ◌<ℤ◌, Float}
use Rattle.std.proofs.Math.Bool.{true, false}
use mathlib.Core.List.{List, [], ◌∷◌, ◌++◌}
use Rattle.std.proofs.Math.ListN.{length, take, get_or-append}
use Rattle.std.proofs.Math.Seq.{take-suc-set, get_or_at}
use Rattle.std.proofs.Math.IntN.{pos}
use Rattle.std.specs.Int.Signed.{lt_z, le_z}
use Rattle.std.specs.Float.{binary64}
use Rattle.std.specs.Float.Ieee.{fits, lt, le, of_bits, of_int}
use Rattle.std.specs.Float.Ieee.Bits.{is_true}
use Rattle.folds.specs.Fold.{pick, pick_true, pick_false, pick_keep, both, both_yes, both-first, both-second, both_true, fold, all, all_stop, all_end}
use Rattle.folds.specs.Fold.{all-at, tab}
use Rattle.folds.specs.Tab.{length-tab, get_d_tab, over-tab, taken-tab}
use Rattle.ints.specs.Diff.{diff, split, minℤ, maxℤ, lt_z_true, lt_z_false, le_z_true}
use Rattle.ints.specs.Bound.{◌≼◌}
use Rattle.arith.specs.Float.{at}
use Rattle.arith.specs.Scalar.{is_finite}
use Rattle.reductions.specs.Reductions.{all_finite}
use Rattle.reductions.specs.Laws.{finite-all}
use Rattle.nearest.specs.Whole.{WithinHalf}
use Rattle.nearest.specs.Value.{one, units, fromℤ, lt-whole, less}
use Rattle.nearest.specs.Nearest.{nearest, nearest-within-half, nearest_own, nearest_mono, nearest-within, nearest-from, nearest_upto}
use Rattle.nearest.specs.Reach.{rounded, reach_finite, unreached, whole-is, far_is}
use Rattle.block.specs.Ranges.{max_time, max_price, Timed}
use Rattle.rounding.specs.Rounding.{time_of, in_range, held, price_of, cap_price_of}
use Rattle.rounding.specs.Lists.{time, all_in_range, times_of, prices_of, TimesOf, PricesOf}

-- ---- a time
-- 2 × |x − time| ≤ 1
pub time-within-half : (x : Float) → WithinHalf (units x) one (time_of x)
unfolding time_of
time-within-half x = nearest-within-half x

pub time_own : (z : ℤ) → nat_abs z ≤ 2 ^ 53 → time_of (fromℤ z) ≡ z
unfolding time_of
time_own z h = nearest_own z h

module _ (x : Float) (p : T (fits binary64 x)) (f : is_finite x ≡ true) where
  pub time_order : (y : Float) → T (fits binary64 y) → is_finite y ≡ true → le x y ≡ true → time_of x ≤ℤ time_of y
  unfolding time_of
  time_order y q g h = nearest_mono x p f y q g h

  pub time-within : (lower upper : ℤ) → nat_abs lower ≤ 2 ^ 53 → nat_abs upper ≤ 2 ^ 53 → le (fromℤ lower) x ≡ true → le x (fromℤ upper) ≡ true
      → (lower ≤ℤ time_of x) × (time_of x ≤ℤ upper)
  unfolding time_of
  time-within lower upper h k d e = nearest-within x p f lower upper h k d e

-- ---- in range, or off it
le_z_yes : {a b : ℤ} → a ≤ℤ b → le_z a b ≡ true
le_z_yes {a} {b} h = is_true (le_z a b) h.le

le_z_no : (a b : ℤ) → b <ℤ a → le_z a b ≡ false
le_z_no a b h = go (le_z a b) refl
  where
    clash : (a b : ℤ) → a ≤ℤ b → b <ℤ a → ⊥
    clash = split _ λ a b. split _ λ c d. simp diff (omega arith)

    go : (t : Bool) → le_z a b ≡ t → le_z a b ≡ false
    go true e = absurd (clash a b (le_z_true a b e) h)
    go false e = e

no_le_z : (a b : ℤ) → le_z a b ≡ false → b <ℤ a
no_le_z a b e = go (lt_z b a) refl
  where
    go : (t : Bool) → lt_z b a ≡ t → b <ℤ a
    go true h = lt_z_true b a h
    go false h = absurd (true≢false (sym (le_z_yes (lt_z_false b a h)) ∙ e))

pub time-finite : (x : Float) → in_range x ≡ true → is_finite x ≡ true
unfolding in_range
time-finite x e = (both_true _ _ e).0

in_range_lem : (n : ℤ) → pos 0 ≤ℤ n → n ≤ℤ pos max_time → nat_abs n ≤ max_time
in_range_lem = split _ λ a b. simp diff (omega arith)

pub time-small : (x : Float) → in_range x ≡ true → time_of x ≼ max_time
unfolding in_range
time-small x e = let w = both_true _ _ (both_true _ _ e).1 in record { size = in_range_lem (time_of x) (le_z_true _ _ w.0) (le_z_true _ _ w.1) }

-- what is outside the range isn't finite, or its time is outside 0 to 262,144, and so outside every window
pub time-off : (x : Float) → in_range x ≡ false → (is_finite x ≡ false) ⊎ ((time_of x <ℤ pos 0) ⊎ (pos max_time <ℤ time_of x))
unfolding in_range both
time-off x e = go (is_finite x) refl (le_z (pos 0) (time_of x)) refl (le_z (time_of x) (pos max_time)) refl e
  where
    go : (f : Bool) → is_finite x ≡ f → (a : Bool) → le_z (pos 0) (time_of x) ≡ a → (b : Bool) → le_z (time_of x) (pos max_time) ≡ b
        → both f (both a b) ≡ false → (is_finite x ≡ false) ⊎ ((time_of x <ℤ pos 0) ⊎ (pos max_time <ℤ time_of x))
    go true p true q true r e = absurd (true≢false e)
    go true p true q false r e = inr (inr (no_le_z (time_of x) (pos max_time) r))
    go true p false q b r e = inr (inl (no_le_z (pos 0) (time_of x) q))
    go false p a q b r e = inl p

-- by the cases of the code
module _ (x : Float) where
  pub off : in_range x ≡ false → None ≡ time x
  unfolding time
  off h = pick_false _ _ h refl

  pub on : {t : ℤ} → in_range x ≡ true → t ≡ time_of x → Some t ≡ time x
  unfolding time
  on h e = pick_true _ _ h (ap Some e)

  pub at_is : {t : ℤ} → time x ≡ Some t → (in_range x ≡ true) × (t ≡ time_of x)
  unfolding time pick
  at_is {t} e = go (in_range x) refl e
    where
      go : (b : Bool) → in_range x ≡ b → pick b (Some (time_of x)) None ≡ Some t → (in_range x ≡ true) × (t ≡ time_of x)
      go true h e = (h, cc)
      go false h e = absurd (let z : ◌≡◌ {A = ℕ} 0 1 = cc in omega arith)

  pub off-is : time x ≡ None → in_range x ≡ false
  unfolding time pick
  off-is e = go (in_range x) refl e
    where
      go : (b : Bool) → in_range x ≡ b → pick b (Some (time_of x)) None ≡ None → in_range x ≡ false
      go true h e = absurd (let z : ◌≡◌ {A = ℕ} 0 1 = cc in omega arith)
      go false h e = h

  low : nearest x <ℤ pos 0 → in_range x ≡ false
  unfolding in_range time_of
  low h = both-second (is_finite x) (both-first _ (le_z_no _ _ h))

  high : pos max_time <ℤ nearest x → in_range x ≡ false
  unfolding in_range time_of
  high h = both-second (is_finite x) (both-second (le_z (pos 0) (nearest x)) (le_z_no _ _ h))

  pub far_off : T (fits binary64 x) → rounded x ≡ None → in_range x ≡ false
  far_off p e = go (is_finite x) refl
    where
      below : (n : ℤ) → n ≤ℤ negsuc 9007199254740991 → n <ℤ pos 0
      below = split _ λ a b. simp diff (omega arith)

      above : (n : ℤ) → pos 9007199254740992 ≤ℤ n → pos max_time <ℤ n
      above = split _ λ a b. simp diff (omega arith)

      go : (f : Bool) → is_finite x ≡ f → in_range x ≡ false
      go true f = ⊎_elim (λ h. low (below (nearest x) h)) (λ h. high (above (nearest x) h)) (unreached x p f (far_is x e))
      go false f = unfold in_range in both-first _ f

  module _ {n : ℤ} (e : rounded x ≡ Some n) where
    pub low-off : n <ℤ pos 0 → in_range x ≡ false
    low-off h = low (subst (λ z. z <ℤ pos 0) (whole-is x n e).1 h)

    pub high-off : pos max_time <ℤ n → in_range x ≡ false
    high-off h = high (subst (λ z. pos max_time <ℤ z) (whole-is x n e).1 h)

    pub whole-on : pos 0 ≤ℤ n → n ≤ℤ pos max_time → in_range x ≡ true
    unfolding in_range time_of
    whole-on h k =
        let w = whole-is x n e in
        both_yes (reach_finite x w.0)
        (both_yes (le_z_yes (subst (λ z. pos 0 ≤ℤ z) w.1 h)) (le_z_yes (subst (λ z. z ≤ℤ pos max_time) w.1 k)))

    pub whole-time : n ≡ time_of x
    unfolding time_of
    whole-time = (whole-is x n e).1

    pub whole-price : {r : ℤ} → r ≡ held n → r ≡ price_of x
    unfolding price_of
    whole-price h = let w = whole-is x n e in pick_true _ _ (reach_finite x w.0) (h ∙ ap held w.1)

-- ---- a price
pub blank-price : (x : Float) → is_finite x ≡ false → pos 0 ≡ price_of x
unfolding price_of
blank-price x h = pick_false _ _ h refl

held-low : (n : ℤ) → n ≤ℤ negsuc 4294967295 → negsuc 4294967295 ≡ held n
unfolding held
held-low = split _ λ a b. simp diff (omega arith)

held-high : (n : ℤ) → pos 4294967296 ≤ℤ n → pos 4294967296 ≡ held n
unfolding held
held-high = split _ λ a b. simp diff (omega arith)

pub held-below : (n : ℤ) → n <ℤ negsuc 4294967295 → negsuc 4294967295 ≡ held n
held-below n h = held-low n (less _ _ h)

pub held-above : (n : ℤ) → pos 4294967296 <ℤ n → pos 4294967296 ≡ held n
held-above n h = held-high n (less _ _ h)

pub held-within : (n : ℤ) → negsuc 4294967295 ≤ℤ n → n ≤ℤ pos 4294967296 → n ≡ held n
unfolding held
held-within = split _ λ a b. simp diff (omega arith)

-- one of 2^53 or more in size stands at the end of the range on its side
module _ (x : Float) (p : T (fits binary64 x)) (f : is_finite x ≡ true) (e : rounded x ≡ None) where
  zero-is : of_bits binary64 0 ≡ fromℤ (pos 0)
  unfolding of_bits of_int
  zero-is = refl

  sign : lt x (of_bits binary64 0) ≡ lt_z (units x) (pos 0 *ℤ pos one)
  sign = ap (λ y. lt x y) zero-is ∙ lt-whole x p f (pos 0) (lit≤ tt)

  priced : {r : ℤ} → r ≡ held (nearest x) → r ≡ price_of x
  unfolding price_of
  priced h = pick_true _ _ f h

  pub far_below : lt x (of_bits binary64 0) ≡ true → negsuc 4294967295 ≡ price_of x
  far_below t =
      priced (held-low (nearest x)
      (⊎_elim (λ h. down (nearest x) h) (λ h. absurd (clash (nearest x) h (nearest_upto x (pos 0) (less _ _ (lt_z_true _ _ (sym sign ∙ t))))))
      (unreached x p f (far_is x e))))
    where
      down : (n : ℤ) → n ≤ℤ negsuc 9007199254740991 → n ≤ℤ negsuc 4294967295
      down = split _ λ a b. simp diff (omega arith)

      clash : (n : ℤ) → pos 9007199254740992 ≤ℤ n → n ≤ℤ pos 0 → ⊥
      clash = split _ λ a b. simp diff (omega arith)

  pub far_above : lt x (of_bits binary64 0) ≡ false → pos 4294967296 ≡ price_of x
  far_above t =
      priced (held-high (nearest x)
      (⊎_elim (λ h. absurd (clash (nearest x) h (nearest-from x (pos 0) (lt_z_false _ _ (sym sign ∙ t))))) (λ h. up (nearest x) h)
      (unreached x p f (far_is x e))))
    where
      up : (n : ℤ) → pos 9007199254740992 ≤ℤ n → pos 4294967296 ≤ℤ n
      up = split _ λ a b. simp diff (omega arith)

      clash : (n : ℤ) → n ≤ℤ negsuc 9007199254740991 → pos 0 ≤ℤ n → ⊥
      clash = split _ λ a b. simp diff (omega arith)

pub held-small : (n : ℤ) → held n ≼ max_price
unfolding held
held-small n = record { size = sized n }
  where
    sized : (n : ℤ) → nat_abs (maxℤ (neg_ℤ (pos max_price)) (minℤ n (pos max_price))) ≤ max_price
    sized = split _ λ a b. simp diff (omega arith)

pub price-small : (x : Float) → price_of x ≼ max_price
unfolding price_of
price-small x = pick_keep (λ z. z ≼ max_price) (is_finite x) (held-small (nearest x)) (record { size = omega arith })

-- the cap's, from 0
pub cap-below : (x : Float) → price_of x <ℤ pos 0 → pos 0 ≡ cap_price_of x
unfolding cap_price_of
cap-below x h = none (price_of x) h
  where
    none : (p : ℤ) → p <ℤ pos 0 → pos 0 ≡ maxℤ (pos 0) p
    none = split _ λ a b. simp diff (omega arith)

pub cap-above : (x : Float) → pos 0 ≤ℤ price_of x → price_of x ≡ cap_price_of x
unfolding cap_price_of
cap-above x h = same (price_of x) h
  where
    same : (p : ℤ) → pos 0 ≤ℤ p → p ≡ maxℤ (pos 0) p
    same = split _ λ a b. simp diff (omega arith)

pub cap_from : (x : Float) → pos 0 ≤ℤ cap_price_of x
unfolding cap_price_of
cap_from x = from (price_of x)
  where
    from : (n : ℤ) → pos 0 ≤ℤ maxℤ (pos 0) n
    from = split _ λ a b. simp diff (omega arith)

pub cap_small : (x : Float) → cap_price_of x ≼ max_price
unfolding cap_price_of
cap_small x = record { size = sized (price_of x) (price-small x).size }
  where
    sized : (n : ℤ) → nat_abs n ≤ max_price → nat_abs (maxℤ (pos 0) n) ≤ max_price
    sized = split _ λ a b. simp diff (omega arith)

-- ---- the lists, as the loops make them
module _ (x : List Float) where
  pub times-off : (i : ℕ) → i < length x → in_range (at x i) ≡ false → TimesOf x None
  unfolding all_in_range
  times-off i h e = sym (all_stop i _ _ h e)

  pub times-on : (i : ℕ) {l : List ℤ} (o : List ℤ) → i ≤ length x → length x ≤ i → length x ≤ length o
      → l ≡ fold i (λ i l. set l i (time_of (at x i))) o
      → true ≡ all i (λ i. in_range (at x i)) → TimesOf x (Some l)
  unfolding all_in_range times_of
  times-on i o p q r e a = (sym (all_end i _ _ p q a), taken-tab _ _ o (over-tab i _ _ o p q r e))

  pub prices_end : (k : ℕ) {raise : Float} {l : List ℤ} {c : ℤ} (o : List ℤ) → k ≤ length x → length x ≤ k → length x ≤ length o → length x < length l
      → l ≡ fold k (λ k l. set l k (price_of (at x k))) o → c ≡ cap_price_of raise → PricesOf x raise (set l (length x) c)
  unfolding prices_of
  prices_end k {raise} {l} {c} o p q r s e f =
      record {
        are =
            ap (λ (n : ℕ). take n (set l (length x) c)) (add-one (length x))
            ∙ take-suc-set l (length x) c s
            ∙ ap₂ (λ (a : List ℤ) (z : ℤ). a ++ (z ∷ [])) (taken-tab _ _ o (over-tab k _ _ o p q r e)) f;
      }

-- ---- the lists, entry by entry
pub length-times_of : (x : List Float) → length (times_of x) ≡ length x
unfolding times_of
length-times_of x = length-tab _ _

pub times_of-at : (x : List Float) (i : ℕ) → i < length x → get_or (times_of x) i (pos 0) ≡ time_of (at x i)
unfolding times_of
times_of-at x i h = get_d_tab (pos 0) _ i _ h

module _ (multipliers : List Float) (raise : Float) where
  pub length-prices_of : length (prices_of multipliers raise) ≡ length multipliers + 1
  unfolding prices_of
  length-prices_of = simp (length-append, length-tab)

  pub prices_of-small : (k : ℕ) → k < length multipliers → nat_abs (get_or (prices_of multipliers raise) k (pos 0)) ≤ max_price
  unfolding prices_of
  prices_of-small k h =
      let l : k < length (tab (length multipliers) (λ k. price_of (at multipliers k))) = rw length-tab h in
      rw (
        get_or-append (tab (length multipliers) (λ k. price_of (at multipliers k))) (cap_price_of raise ∷ []) (pos 0) k l,
        get_d_tab (pos 0) (length multipliers) k (λ k. price_of (at multipliers k)) h,
      )
      (price-small (at multipliers k)).size

  pub prices_of-cap : get_or (prices_of multipliers raise) (length multipliers) (pos 0) ≡ cap_price_of raise
  unfolding prices_of
  prices_of-cap =
      get_or_at (tab (length multipliers) (λ k. price_of (at multipliers k))) (cap_price_of raise) [] (pos 0) (length multipliers) (length-tab _ _)

-- ---- where not all are in range, there is one that is off it
all_no_at : (n : ℕ) (p : ℕ → Bool) → all n p ≡ false → (k : ℕ) × (k < n) × (p k ≡ false)
unfolding all
all_no_at zero p e = absurd (true≢false e)
all_no_at (suc n) p e = go (p n) refl e (all_no_at n p)
  where
    go : (t : Bool) → p n ≡ t → cond t (all n p) false ≡ false → (all n p ≡ false → (k : ℕ) × (k < n) × (p k ≡ false))
        → (k : ℕ) × (k < suc n) × (p k ≡ false)
    go true q e f = let r = f e in (r.0, let l = r.1 in omega arith, r.2)
    go false q e f = (n, omega arith, q)

pub one-off : (x : List Float) → all_in_range x ≡ false → (i : ℕ) × (i < length x) × (in_range (at x i) ≡ false)
unfolding all_in_range
one-off x e = all_no_at _ _ e

-- ---- and where they are, each is finite
pub all-finite : (x : List Float) → all_in_range x ≡ true → all_finite (length x) x ≡ true
unfolding all_in_range
all-finite x e = finite-all _ x (λ i h. time-finite (at x i) (all-at _ i _ e h))

pub times-timed : (x : List Float) → all_in_range x ≡ true → Timed (length x) (times_of x)
unfolding all_in_range
times-timed x e = record { small = λ i h. rw (times_of-at x i h) (time-small (at x i) (all-at _ i _ e h)).size }
