-- Laws of the definitions: the variable that enters is one of the n, the last of the fastest, and it is left free in one of its segments.
use Rattle.std.specs.Prelude.{◌≡◌, refl, Bool, true, false, List, ltb, Option, Some, None}
use Rattle.std.specs.Option.{option_or}
use Rattle.std.proofs.Math.Path.{sym}
use Rattle.std.proofs.Common.{arith}
use Prim.Native.Nat.{ℕ, ◌-◌, ◌<◌, ◌≤◌}
use Rattle.std.specs.Float.Ieee.{Float, lt}
use borrow.Author.Tests.{ltb-true}
use Rattle.folds.specs.Fold.{pick, pick_keep, pick_by}
use Rattle.folds.specs.Best.{Wins, last_largest_lem}
use Rattle.arith.specs.Float.{fadd, fmul, fneg, at}
use Rattle.arith.specs.Laws.{total_through, total-passes}
use Rattle.segments.specs.Segments.{last, Placed, segments_at, AllPlaced}
use Rattle.segments.specs.declared.Segments.{Segments}
use Rattle.segments.specs.declared.State.{State}
use Rattle.segments.specs.declared.State.TheVariants.{At, Free}
use Rattle.releasing.specs.declared.Outcome.TheVariants.{Enter}
use Rattle.releasing.specs.Release.{counted, up, down, held_descent, of_state, wrong_one, wrong, offered, offers}
use Rattle.releasing.specs.Release.{at_least, entering, outcome, tiny, release}

-- into one of the segments of s
unfoldable IntoOne : Segments → Option (Float × ℕ) → Type 0
IntoOne s (Some w) = w.1 < last s
IntoOne s None = Unit {0}

module _ (s : Segments) (nu least : Float) where
  counted-one : (rate : Float) (j : ℕ) → j < last s → IntoOne s (counted rate j least)
  unfolding counted IntoOne
  counted-one rate j h = pick_keep (IntoOne s) (lt least rate) {x = Some (rate, j)} {y = None} h tt

  up-one : (p : ℕ) → IntoOne s (up s p nu least)
  unfolding up IntoOne
  up-one p =
      pick_by (IntoOne s) (ltb p (last s)) {x = counted (fneg (fadd nu (at s.slopes p))) p least} {y = None}
      (λ t. counted-one _ p (ltb-true _ _ t)) (λ _. tt)

  down-one : (p : ℕ) → p ≤ last s → IntoOne s (down s p nu least)
  unfolding down IntoOne
  down-one p h =
      pick_by (IntoOne s) (ltb 0 p) {x = counted (fadd nu (at s.slopes (p - 1))) (p - 1) least} {y = None}
      (λ t. let g = ltb-true 0 p t in counted-one _ (p - 1) (omega arith)) (λ _. tt)

  or-one : (a b : Option (Float × ℕ)) → IntoOne s a → IntoOne s b → IntoOne s (option_or a b)
  unfolding IntoOne
  or-one (Some w) b p q = p
  or-one None b p q = q

  state-one : (t : State) → Placed s t → IntoOne s (of_state t s nu least)
  unfolding of_state held_descent IntoOne
  state-one (At p) h = or-one _ _ (up-one p) (down-one p h)
  state-one (Free j) h = tt

  wrong-one : (fixed : Bool) (t : State) → Placed s t → IntoOne s (wrong_one fixed t s nu least)
  unfolding wrong_one IntoOne
  wrong-one fixed t h = pick_keep (IntoOne s) fixed {x = None} {y = of_state t s nu least} tt (state-one t h)

-- a variable offers its own move
own : (refused : Bool) (w : Option (Float × ℕ)) (i : ℕ) (o : Float × ℕ × ℕ) → offered refused w i ≡ Some o → (i ≡ o.1) × (w ≡ Some (o.0, o.2))
unfolding offered
own false (Some w) i o e = let q : (w.0, i, w.1) ≡ o = cc in rw (← q) (refl, refl)
own false None i o e = (cc, cc)
own true w i o e = (cc, cc)

module _ (n : ℕ) (segments : List Segments) (state : List State) (fixed refused : List Bool) (gradient pushback : List Float) (least : Float) where
  -- of equal rates the last: none before variable i's is larger, and each after it is smaller
  pub entering-last : {rate : Float} {i j : ℕ} → Some (rate, i, j) ≡ entering n segments state fixed refused gradient pushback least →
      (w : Wins at_least n (offers segments state fixed refused gradient pushback least) (rate, i, j)) × (w.index ≡ i)
  unfolding entering
  entering-last {rate} {i} {j} e =
      let w = last_largest_lem _ (λ a b c. total_through a.0 b.0 c.0) (λ a b c. total-passes a.0 b.0 c.0) n _ _ (sym e) in
      (w, (own _ _ _ _ w.gives).0)

outcome_enter : (f : Option (Float × ℕ × ℕ)) (any : Bool) (i j : ℕ) → Enter i j ≡ outcome f any → (rate : Float) × (Some (rate, i, j) ≡ f)
unfolding outcome pick
outcome_enter (Some f) any i j e = let p : i ≡ f.1 = cc in let q : j ≡ f.2 = cc in (f.0, rw (p, q))
outcome_enter None true i j e = absurd (let z : ◌≡◌ {A = ℕ} 0 1 = cc in omega arith)
outcome_enter None false i j e = absurd (let z : ◌≡◌ {A = ℕ} 0 1 = cc in omega arith)

module _ (n : ℕ) (segments : List Segments) (state : List State) (placed : AllPlaced n segments state) (fixed refused : List Bool)
    (gradient pushback : List Float) where
  pub entered : (scale : Float) (i j : ℕ) → Enter i j ≡ release n segments state fixed refused gradient pushback scale →
      (i < n) × (j < last (segments_at segments i))
  unfolding release wrong IntoOne
  entered scale i j e =
      let least = fmul tiny scale in
      let w = entering-last n segments state fixed refused gradient pushback least (outcome_enter _ _ i j e).1 in
      let k = w.0.index in
      let one : IntoOne (segments_at segments k) (wrong segments state fixed gradient pushback least k) = wrong-one _ _ _ _ _ (placed k w.0.below) in
      rw (← w.1) (w.0.below, rw (own _ _ _ _ w.0.gives).1 at one)
