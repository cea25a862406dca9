-- The ends of a bracket: low is from +0 up and below high, which may be infinite. Doubling keeps that and leaves fewer doublings; a cut keeps it on
-- either side of the middle and leaves fewer floats. Nothing rests on what a solve gives, NaNs and infinities included.
use Rattle.std.specs.Prelude.{◌≡◌, Bool, List, ℕ, ◌<◌, T, Float}
use Rattle.std.proofs.Math.Path.{refl}
use Rattle.std.proofs.Common.{sym, subst}
use Rattle.std.proofs.Math.Bool.{true, false}
use Rattle.std.specs.Float.Ieee.{binary64, fits, lt, le}
use Rattle.std.specs.Float.Ieee.Fits.{add-fits}
use Rattle.folds.specs.Fold.{pick, false_true}
use Rattle.arith.specs.Float.{f0}
use Rattle.arith.specs.Order.{upward, upward-above, between}
use Rattle.arith.specs.Double.{zero-upward, half_max, doublings}
use Rattle.arith.specs.Middle.{middle-upward, middle-fits}
use Rattle.arith.specs.Ends.{Ends, first-ends, double-ends, double_falls, lower-part, upper-part}
use Rattle.bracket.specs.declared.Bracket.{Bracket}
use Rattle.bracket.specs.Bracket.{new, exceed, accept, warmed, double, secant, halve, inside, cut, closed}

pub record Rising (b : Bracket) : Type 0 where
  pub from : T (upward b.low)
  pub rising : lt b.low b.high ≡ true

-- and the format holds both ends, as it does whatever a variable of a program holds
abbrev pub Held : Bracket → Type 0
Held b = Ends b.low b.high

pub rising-held : (b : Bracket) → fits binary64 b.low ≡ true → fits binary64 b.high ≡ true → Rising b → Held b
rising-held b g h r =
    record { low_held = subst T (sym g) tt; high_held = subst T (sym h) tt; from = r.from; rising = r.rising }

pub held-rising : (b : Bracket) → Held b → Rising b
held-rising b v = record { from = v.from; rising = v.rising }

-- ---- the measures: how many doublings are left, and how many floats between the ends
abbrev pub ups : Bracket → ℕ
ups b = doublings b.high

abbrev pub width : Bracket → ℕ
width b = between b.low b.high

-- ---- the start
module _ (w : ℕ) (value : Float) (warm : List Float) (first : Float) (h : lt f0 first ≡ true) where
  pub new-held : T (fits binary64 first) → Held (new w value warm first)
  unfolding new
  new-held g = first-ends first g h

  pub new-rising : Rising (new w value warm first)
  unfolding new
  new-rising = record { from = zero-upward; rising = h }

-- ---- doubling
pub exceed-high : (at value : Float) (b : Bracket) → (exceed at value b).high ≡ b.high
unfolding exceed
exceed-high at value b = refl

pub warmed-high : (x : List Float) (b : Bracket) → (warmed x b).high ≡ b.high
unfolding warmed
warmed-high x b = refl

module _ (value : Float) (warm : List Float) (b : Bracket) (v : Held b) (h : lt half_max b.high ≡ false) where
  pub double-held : Held (double (exceed b.high value b)) × (ups (double (exceed b.high value b)) < ups b)
  unfolding double exceed
  double-held = (double-ends b.low b.high v h, double_falls b.low b.high v h)

  pub double-warmed : Held (double (warmed warm (exceed b.high value b))) × (ups (double (warmed warm (exceed b.high value b))) < ups b)
  unfolding double exceed warmed
  double-warmed = (double-ends b.low b.high v h, double_falls b.low b.high v h)

-- ---- cutting
pub accept-held : (at value : Float) (x multipliers : List Float) (passes : ℕ) (b : Bracket) → Ends b.low at →
    Held (accept at value x multipliers passes b)
unfolding accept
accept-held at value x multipliers passes b v = v

-- a cut has the bracket's ends, and its middle is a float that is no NaN: the secant is taken only where it lies between the ends, and the half never
-- is one
record Middled (b t : Bracket) : Type 0 where
  low_same : t.low ≡ b.low
  high_same : t.high ≡ b.high
  held : T (fits binary64 t.middle)
  up : T (upward t.middle)

inside-over : (b : Bracket) → inside b ≡ true → lt b.low b.middle ≡ true
unfolding inside
inside-over b h = go (lt b.low b.middle) (lt b.middle b.high) h
  where
    go : (p q : Bool) → pick p q false ≡ true → p ≡ true
    go true q h = refl
    go false q h = absurd (false_true (unfold pick in h))

module _ (b : Bracket) (v : Held b) where
  halved : Middled b (halve b)
  unfolding halve
  halved =
      record { low_same = refl; high_same = refl; held = middle-fits b.low b.high; up = middle-upward b.low b.high v.from v.rising }

  secanted : (limit : Float) → inside (secant limit b) ≡ true → Middled b (secant limit b)
  unfolding secant
  secanted limit h =
      record {
        low_same = refl;
        high_same = refl;
        held = add-fits binary64 _ _;
        up = upward-above b.low _ v.from (inside-over (secant limit b) h);
      }

  middled : (limit : Float) → Middled b (cut limit b)
  unfolding cut
  middled limit = go b.even (inside (secant limit b)) refl
    where
      go : (p q : Bool) → inside (secant limit b) ≡ q → Middled b (pick p (pick q (secant limit b) (halve b)) (halve b))
      go true true e = unfold pick in secanted limit e
      go true false e = unfold pick in halved
      go false q e = unfold pick in halved

  -- the part on either side of a middle that the tests pass
  open_between : (t : Bracket) → closed t ≡ false → (le t.middle t.low ≡ false) × (le t.high t.middle ≡ false)
  unfolding closed
  open_between t h = go (le t.middle t.low) (le t.high t.middle) h
    where
      go : (p q : Bool) → pick p true q ≡ false → (p ≡ false) × (q ≡ false)
      go true q h = absurd (false_true (sym (unfold pick in h)))
      go false q h = (refl, unfold pick in h)

  module _ (limit : Float) (c : closed (cut limit b) ≡ false) where
    abbrev t : Bracket
    t = cut limit b

    pub cut-accept : (value : Float) (x multipliers : List Float) (passes : ℕ) →
        Held (accept t.middle value x multipliers passes t) × (width (accept t.middle value x multipliers passes t) < width b)
    unfolding accept
    cut-accept value x multipliers passes =
        let m = middled limit in
        let o = open_between t c in
        rw m.low_same
        (lower-part b.low b.high v t.middle m.held m.up (rw m.low_same at o.0) (rw m.high_same at o.1))

    pub cut-exceed : (value : Float) → Held (exceed t.middle value t) × (width (exceed t.middle value t) < width b)
    unfolding exceed
    cut-exceed value =
        let m = middled limit in
        let o = open_between t c in
        rw m.high_same
        (upper-part b.low b.high v t.middle m.held m.up (rw m.low_same at o.0) (rw m.high_same at o.1))
