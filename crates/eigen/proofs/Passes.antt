-- The loop over the sweeps: what is left of it after i of them.
use mathlib.Core.Path.{◌≡◌, refl, ◌∙◌}
use mathlib.Core.Bool.{Bool, true, false}
use mathlib.Core.List.{List}
use Prim.Native.Nat.{ℕ, ◌+◌, ◌-◌, ◌<◌, ◌≤◌}
use lib.Ieee.{Float, is_nan, le}
use Rattle.folds.specs.Fold.{Out, out, pick}
use Rattle.folds.specs.Part.{two}
use Rattle.folds.specs.Run.{run, more, run-more, run-done, run-spent}
use Rattle.arith.specs.Float.{fmul, f2, sqrt}
use Rattle.rotation.specs.Rotation.{State}
use Rattle.eigen.specs.Eigen.{pass, sweep, off_diagonal, sweeps}

unfoldable pub Left : ℕ → Float → ℕ → State → Out State
Left n t i s = run (λ k. pass n t) (λ k z. out false z) (100 - i) i (more s)

pub all-left : (n : ℕ) (t : Float) (s : State) → Left n t 0 s ≡ sweeps n t s
unfolding Left sweeps
all-left n t s = refl

module _ {r : Out State} (n i : ℕ) (t : Float) where
  pub spent : (s : State) → 100 ≤ i → Left n t i s ≡ r → out false s ≡ r
  unfolding Left
  spent s h e = run-spent (λ k. pass n t) (λ k z. out false z) 100 i s h ∙ e

  module _ {o : Float} {b : Bool} (a v : List Float) (under : i < 100) (sum : o ≡ off_diagonal n a) (test : b ≡ is_nan o)
      (left : Left n t i (two a v) ≡ r) where
    pub broken : b ≡ true → out false (two a v) ≡ r
    unfolding Left pass pick
    broken h = run-done (λ k. pass n t) (λ k z. out false z) 100 i (two a v) under (rw (← sum, ← test, h)) ∙ left

    module _ {q : Float} (number : b ≡ false) (root : q ≡ sqrt (fmul f2 o)) where
      pub found : le q t ≡ true → out true (two a v) ≡ r
      unfolding Left pass pick
      found h = run-done (λ k. pass n t) (λ k z. out false z) 100 i (two a v) under (rw (← sum, ← test, number, ← root, h)) ∙ left

      pub again : {z : State} → le q t ≡ false → z ≡ sweep n (two a v) → Left n t (i + 1) z ≡ r
      unfolding Left pass pick
      again {z} h e = run-more (λ k. pass n t) (λ k z. out false z) 100 i (two a v) z under (rw (← sum, ← test, number, ← root, h, ← e)) ∙ left
