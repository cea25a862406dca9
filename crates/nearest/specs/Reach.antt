-- What the public call gives: the nearest whole number of an x that is finite and below 2 ^ 53 in size.
use Rattle.std.specs.Prelude.{◌≡◌, refl, ℕ, ◌*◌, ◌^◌, ◌≤◌, ◌⊎◌, Bool, true, false, Option, Some, None, T, ℤ, pos, negsuc, neg_ℤ, nat_abs, ◌≤ℤ◌, Float}
use Rattle.std.proofs.Math.Path.{sym}
use Rattle.std.proofs.Common.{ap, ◌∙◌, arith, inl, inr, true≢false, lit≤}
use Rattle.std.specs.Int.Signed.{lt_z}
use Rattle.std.specs.Float.{binary64}
use Rattle.std.specs.Float.Ieee.{fits, lt, neg, of_bits, of_int}
use Rattle.folds.specs.Fold.{pick, pick_true, pick_false, both, both_true, both_stop, both_yes}
use Rattle.ints.specs.Diff.{diff, split, lt_z_true, lt_z_false}
use Rattle.ints.specs.Bound.{◌≼◌}
use Rattle.arith.specs.Scalar.{is_finite}
use Rattle.nearest.specs.Value.{one, units, fromℤ, lt-whole, whole-lt, less}
use Rattle.nearest.specs.Nearest.{nearest, nearest-from, nearest_upto}

-- x is a number, below 2 ^ 53 in size
unfoldable pub in_reach : Float → Bool
in_reach x = both (is_finite x) (both (lt_z (neg_ℤ (pos (2 ^ 53 * one))) (units x)) (lt_z (units x) (pos (2 ^ 53 * one))))

unfoldable pub rounded : Float → Option ℤ
rounded x = pick (in_reach x) (Some (nearest x)) None

-- ---- in reach is at most 2 ^ 53 in size
pub reach_finite : (x : Float) → in_reach x ≡ true → is_finite x ≡ true
unfolding in_reach
reach_finite x r = (both_true (is_finite x) _ r).0

pub reach_bounds : (x : Float) → in_reach x ≡ true → (lt_z (neg_ℤ (pos (2 ^ 53 * one))) (units x) ≡ true) × (lt_z (units x) (pos (2 ^ 53 * one)) ≡ true)
unfolding in_reach
reach_bounds x r = both_true _ _ (both_true (is_finite x) _ r).1

sized : (n : ℤ) → negsuc 9007199254740991 ≤ℤ n → n ≤ℤ pos 9007199254740992 → nat_abs n ≤ 9007199254740992
sized = split _ λ a b. simp diff (omega arith)

pub reach_small : (x : Float) → in_reach x ≡ true → nearest x ≼ 9007199254740992
reach_small x r =
    let b = reach_bounds x r in
    record {
      size = sized (nearest x)
          (nearest-from x (negsuc 9007199254740991) (less _ _ (lt_z_true _ _ b.0)))
          (nearest_upto x (pos 9007199254740992) (less _ _ (lt_z_true _ _ b.1)));
    }

-- ---- the test for it: 2 ^ 53 as the source writes it
abbrev pub high53 : Float
high53 = of_bits binary64 0x4340_0000_0000_0000

high53-is : high53 ≡ fromℤ (pos 9007199254740992)
unfolding of_bits of_int
high53-is = refl

low53_is : neg high53 ≡ fromℤ (negsuc 9007199254740991)
unfolding of_bits of_int neg
low53_is = refl

pub not-reached : (x : Float) → is_finite x ≡ false → in_reach x ≡ false
unfolding in_reach
not-reached x f = sym (both_stop _ f)

module _ (x : Float) (p : T (fits binary64 x)) (f : is_finite x ≡ true) where
  low53 : lt (neg high53) x ≡ lt_z (neg_ℤ (pos (2 ^ 53 * one))) (units x)
  low53 = ap (λ y. lt y x) low53_is ∙ whole-lt x p f (negsuc 9007199254740991) (lit≤ tt)

  top53 : lt x high53 ≡ lt_z (units x) (pos (2 ^ 53 * one))
  top53 = ap (λ y. lt x y) high53-is ∙ lt-whole x p f (pos 9007199254740992) (lit≤ tt)

  pub too_low : lt (neg high53) x ≡ false → in_reach x ≡ false
  unfolding in_reach both
  too_low e = rw (f, sym low53 ∙ e)

  pub too_high : lt (neg high53) x ≡ true → lt x high53 ≡ false → in_reach x ≡ false
  unfolding in_reach both
  too_high e g = rw (f, sym low53 ∙ e, sym top53 ∙ g)

  pub reach : lt (neg high53) x ≡ true → lt x high53 ≡ true → in_reach x ≡ true
  unfolding in_reach
  reach e g = both_yes f (both_yes (sym low53 ∙ e) (sym top53 ∙ g))

-- out of reach on one side, or on the other
pub unreached : (x : Float) → T (fits binary64 x) → is_finite x ≡ true → in_reach x ≡ false →
    (nearest x ≤ℤ negsuc 9007199254740991) ⊎ (pos 9007199254740992 ≤ℤ nearest x)
unfolding in_reach both
unreached x p f r = go (lt_z (neg_ℤ (pos (2 ^ 53 * one))) (units x)) refl (lt_z (units x) (pos (2 ^ 53 * one))) refl (rw f at r)
  where
    go : (s : Bool) → lt_z (neg_ℤ (pos (2 ^ 53 * one))) (units x) ≡ s → (t : Bool) → lt_z (units x) (pos (2 ^ 53 * one)) ≡ t → both s t ≡ false
        → (nearest x ≤ℤ negsuc 9007199254740991) ⊎ (pos 9007199254740992 ≤ℤ nearest x)
    go false e t g h = inl (nearest_upto x (negsuc 9007199254740991) (lt_z_false _ _ e))
    go true e false g h = inr (nearest-from x (pos 9007199254740992) (lt_z_false _ _ g))
    go true e true g h = absurd (true≢false h)

-- ---- what is given, and what it tells
pub far : (x : Float) → in_reach x ≡ false → None ≡ rounded x
unfolding rounded
far x h = pick_false _ _ h refl

pub reached : (x : Float) {r : ℤ} → in_reach x ≡ true → r ≡ nearest x → Some r ≡ rounded x
unfolding rounded
reached x h e = pick_true _ _ h (ap Some e)

pub whole-is : (x : Float) (n : ℤ) → rounded x ≡ Some n → (in_reach x ≡ true) × (n ≡ nearest x)
unfolding rounded pick
whole-is x n e = go (in_reach x) refl e
  where
    go : (t : Bool) → in_reach x ≡ t → pick t (Some (nearest x)) None ≡ Some n → (in_reach x ≡ true) × (n ≡ nearest x)
    go true r e = (r, cc)
    go false r e = absurd (let z : ◌≡◌ {A = ℕ} 0 1 = cc in omega arith)

pub far_is : (x : Float) → rounded x ≡ None → in_reach x ≡ false
unfolding rounded pick
far_is x e = go (in_reach x) refl e
  where
    go : (t : Bool) → in_reach x ≡ t → pick t (Some (nearest x)) None ≡ None → in_reach x ≡ false
    go true r e = absurd (let z : ◌≡◌ {A = ℕ} 0 1 = cc in omega arith)
    go false r e = r
