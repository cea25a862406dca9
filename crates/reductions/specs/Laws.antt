-- Laws of the definitions.
use Rattle.std.specs.Prelude.{◌≡◌, refl, true, false, List, ℕ, zero, suc, ◌<◌, Float}
use Rattle.std.proofs.Common.{sym, subst, ⊎_elim, arith, eq-or-lt_of_le, le_of_suc-le-suc, not-suc-le-zero}
use Rattle.std.specs.Float.Ieee.{of_bits, is_nan}
use Rattle.std.specs.Float.Ieee.Positive.{num, den, den_pos, through}
use Rattle.folds.specs.Fold.{fold, all-at, all_yes, some_no}
use Rattle.arith.specs.Float.{at}
use Rattle.arith.specs.Scalar.{abs, max, is_finite}
use Rattle.arith.specs.Laws.{max-number}
use Rattle.arith.specs.Neutral.{zero-is}
use Rattle.arith.specs.Quotients.{Size, Under, larger}
use Rattle.reductions.specs.Reductions.{amax, any_nan, all_finite}

-- ---- finite elements
pub finite-at : (n k : ℕ) (a : List Float) → all_finite n a ≡ true → k < n → is_finite (at a k) ≡ true
unfolding all_finite
finite-at n k a e h = all-at n k (λ j. is_finite (at a j)) e h

pub finite-all : (n : ℕ) (a : List Float) → ((k : ℕ) → k < n → is_finite (at a k) ≡ true) → all_finite n a ≡ true
unfolding all_finite
finite-all n a h = all_yes n (λ j. is_finite (at a j)) h

pub numbers-all : (n : ℕ) (a : List Float) → ((k : ℕ) → k < n → is_nan (at a k) ≡ false) → any_nan n a ≡ false
unfolding any_nan
numbers-all n a h = some_no n (λ j. is_nan (at a j)) h

-- ---- the largest is a number, and no element is larger
pub amax-number : (n : ℕ) (a : List Float) → is_nan (amax n a) ≡ false
unfolding amax fold is_nan of_bits
amax-number zero a = refl
amax-number (suc n) a = max-number (amax n a) (abs (at a n)) (amax-number n a)

pub amax_largest : (n : ℕ) (a : List Float) → ((k : ℕ) → k < n → is_finite (at a k) ≡ true) →
    Size (amax n a) × ((k : ℕ) → k < n → Under (at a k) (amax n a))
unfolding amax fold
amax_largest zero a h = (subst Size (sym zero-is) refl, λ k l. absurd (not-suc-le-zero l))
amax_largest (suc n) a h =
    let m = amax n a in
    let u = amax_largest n a (λ k l. h k (omega arith)) in
    let s = larger m (at a n) u.0 (h n (omega arith)) in
    let x : Float = max m (abs (at a n)) in (
      s.0,
      λ k l. ⊎_elim (λ (e : k ≡ n). rw e s.2)
          (λ (i : k < n). through (num (at a k)) (num m) (num x) (den (at a k)) (den m) (den x) (den_pos m) (u.1 k i) s.1)
          (eq-or-lt_of_le (le_of_suc-le-suc l)),
    )
