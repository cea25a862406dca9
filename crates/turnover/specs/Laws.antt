-- Laws of the definitions: the first raise is above 0, whatever the problem holds.
use Rattle.std.specs.Prelude.{◌≡◌, refl, Bool, true, List, ℕ, Float}
use Rattle.std.proofs.Math.Bool.{false}
use Rattle.std.specs.Float.Ieee.{of_bits, lt}
use Rattle.folds.specs.Fold.{pick}
use Rattle.arith.specs.Float.{f0, f1}
use Rattle.turnover.specs.Turnover.{first_raise, kink_multiplier}

one-above : lt f0 f1 ≡ true
unfolding lt of_bits
one-above = refl

pub first-above : (pull : Float) → lt f0 (first_raise pull) ≡ true
unfolding first_raise pick
first-above pull = go (lt f0 pull) refl
  where
    go : (t : Bool) → lt f0 pull ≡ t → lt f0 (pick t pull f1) ≡ true
    go true e = unfold pick in e
    go false e = unfold pick in one-above

pub kink_above : (n : ℕ) (q c at : List Float) → lt f0 (kink_multiplier n q c at) ≡ true
unfolding kink_multiplier
kink_above n q c at = first-above _
