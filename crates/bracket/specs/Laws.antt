-- Laws of the definitions: each reads the same of the code's arrays as of their first n and w entries.
use Rattle.std.specs.Prelude.{◌≡◌, Bool, ℕ, zero, suc, ◌≤◌, replicate, Float}
use Rattle.std.proofs.Math.Path.{refl, ap}
use Rattle.std.proofs.Common.{sym, ◌∙◌, arith}
use Rattle.std.proofs.Math.Bool.{true, false}
use mathlib.Core.List.{List, ◌∷◌}
use Rattle.std.proofs.Math.ListN.{take}
use Rattle.folds.specs.Fold.{pick}
use Rattle.arith.specs.Float.{f0}
use Rattle.sizes.specs.Sizes as Sizes
use Rattle.bracket.specs.declared.Bracket.{Bracket}
use Rattle.bracket.specs.Bracket.{bracket_of, new, exceed, accept, warmed, double, secant, halve, inside, cut, closed}

taken : (k n : ℕ) (v : Float) → k ≤ n → take k (replicate n v) ≡ replicate k v
taken zero n v h = refl
taken (suc k) zero v h = absurd (omega arith)
taken (suc k) (suc n) v h = ap (λ (t : List Float). v ∷ t) (taken k n v (omega arith))

module _ (n w : ℕ) where
  of-new : (value : Float) (warm : List Float) (first : Float) → w ≤ Sizes.columns →
      bracket_of n w (new Sizes.columns value warm first) ≡ new w value (take n warm) first
  unfolding new
  of-new value warm first h =
      ap
      (λ (t : List Float). record {
        low = f0;
        low_value = value;
        middle = f0;
        high = first;
        high_value = f0;
        best = take n warm;
        multipliers = t;
        passes = 0;
        warm = take n warm;
        even = true;
      })
      (taken w Sizes.columns f0 h)

  pub new-of : {t : Bracket} (value : Float) (warm : List Float) (first : Float) → t ≡ new Sizes.columns value warm first → w ≤ Sizes.columns →
      bracket_of n w t ≡ new w value (take n warm) first
  new-of value warm first e h = ap (bracket_of n w) e ∙ of-new value warm first h

  module _ (b : Bracket) where
    pub of-exceed : (at value : Float) → bracket_of n w (exceed at value b) ≡ exceed at value (bracket_of n w b)
    unfolding exceed
    of-exceed at value = refl

    pub of-accept : (at value : Float) (x multipliers : List Float) (passes : ℕ) →
        bracket_of n w (accept at value x multipliers passes b) ≡ accept at value (take n x) (take w multipliers) passes (bracket_of n w b)
    unfolding accept
    of-accept at value x multipliers passes = refl

    pub of-warmed : (x : List Float) → bracket_of n w (warmed x b) ≡ warmed (take n x) (bracket_of n w b)
    unfolding warmed
    of-warmed x = refl

    pub of-double : bracket_of n w (double b) ≡ double (bracket_of n w b)
    unfolding double
    of-double = refl

    of-cut : (limit : Float) → bracket_of n w (cut limit b) ≡ cut limit (bracket_of n w b)
    unfolding cut secant halve inside
    of-cut limit = go b.even (inside (secant limit b))
      where
        go : (p q : Bool) → bracket_of n w (pick p (pick q (secant limit b) (halve b)) (halve b))
            ≡ pick p (pick q (secant limit (bracket_of n w b)) (halve (bracket_of n w b))) (halve (bracket_of n w b))
        go true true = unfold pick secant in refl
        go true false = unfold pick halve in refl
        go false q = unfold pick halve in refl

    of-closed : closed (bracket_of n w b) ≡ closed b
    unfolding closed
    of-closed = refl

  -- the cut that the code made
  module _ (b t : Bracket) (limit : Float) (e : t ≡ cut limit b) where
    pub cut-of : bracket_of n w t ≡ cut limit (bracket_of n w b)
    cut-of = ap (bracket_of n w) e ∙ of-cut b limit

    pub cut-closed : closed (cut limit (bracket_of n w b)) ≡ closed t
    cut-closed = ap closed (sym cut-of) ∙ of-closed t
