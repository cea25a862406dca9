-- Laws of the definitions: the entry that blocks is one of the n, the first of the least.
use Rattle.std.specs.Prelude.{◌≡◌, Bool, true, false, List, ℕ, ◌<◌, Float, Option, Some, None}
use Rattle.std.proofs.Common.{sym}
use Rattle.folds.specs.Fold.{pick}
use Rattle.folds.specs.Best.{first_least, Wins, first-least}
use Rattle.arith.specs.Float.{fmul, at}
use Rattle.arith.specs.Laws.{total_through, total-passes}
use Rattle.reductions.specs.Reductions.{amax}
use Rattle.step_length.specs.declared.Side.{Side}
use Rattle.step_length.specs.declared.Side.TheVariants.{Lower, Upper}
use Rattle.step_length.specs.StepLength.{rounding, shorter, end_reached, ratio_test, end_passed, first_passed}

-- ---- of equal steps the first: step t of entry k is shorter than each before it, and none after it is shorter
abbrev pub First : (n : ℕ) (hit : ℕ → Option (Float × ℕ × Side)) (t : Float) (k : ℕ) (s : Side) → Type 0
First n hit t k s = (w : Wins shorter n hit (t, k, s)) × (w.index ≡ k)

-- an entry's hit bears its number
own : (a b : Bool) (u v : Float) (i : ℕ) (o : Float × ℕ × Side) → pick a (Some (u, i, Lower)) (pick b (Some (v, i, Upper)) None) ≡ Some o →
    i ≡ o.1
unfolding pick
own true b u v i o e = cc
own false true u v i o e = cc
own false false u v i o e = cc

least-first : {t : Float} {k : ℕ} {s : Side} (n : ℕ) (hit : ℕ → Option (Float × ℕ × Side)) →
    ((i : ℕ) (o : Float × ℕ × Side) → hit i ≡ Some o → i ≡ o.1) → Some (t, k, s) ≡ first_least shorter n hit → First n hit t k s
least-first {t} {k} {s} n hit h e =
    let w = first-least shorter (λ a b c. total_through a.0 b.0 c.0) (λ a b c. total-passes a.0 b.0 c.0) n _ _ (sym e) in
    (w, h w.index _ w.gives)

module _ (n : ℕ) (x d lower upper : List Float) (t : Float) (k : ℕ) (s : Side) where
  module _ (e : Some (t, k, s) ≡ ratio_test n x d lower upper) where
    pub ratio-first : First n (λ i. end_reached (at x i) (at d i) (at lower i) (at upper i) (fmul rounding (amax n d)) i) t k s
    unfolding ratio_test end_reached
    ratio-first = least-first n _ (λ i. own _ _ _ _ i) e

    pub ratio-below : k < n
    ratio-below = rw ratio-first.1 at ratio-first.0.below

  module _ (tolerance : Float) (e : Some (t, k, s) ≡ first_passed n x d lower upper tolerance) where
    pub passed-first : First n (λ i. end_passed (at x i) (at d i) (at lower i) (at upper i) tolerance i) t k s
    unfolding first_passed end_passed
    passed-first = least-first n _ (λ i. own _ _ _ _ i) e

    pub passed-below : k < n
    passed-below = rw passed-first.1 at passed-first.0.below
