-- The loop over the passes: what is left of it after `made` of them.
use Rattle.std.specs.Prelude.{Result, Err}
use mathlib.Core.Path.{◌≡◌, ◌∙◌}
use mathlib.Core.Bool.{Bool, true}
use mathlib.Core.List.{List}
use Prim.Native.Nat.{ℕ, ◌+◌, ◌-◌, ◌<◌, ◌≤◌}
use lib.Ieee.{Float}
use lib.ListN.{length}
use Rattle.folds.specs.Run.{more, run, run-all, run-more, run-done, run-spent}
use Rattle.segments.specs.declared.Segments.{Segments}
use Rattle.iterate.specs.Problem.{Problem, problem, Room}
use Rattle.iterate.specs.declared.Iterate.{Iterate}
use Rattle.factoring.specs.Kept.{Kept, new, kept_of}
use Rattle.pass.specs.declared.Made.{Made}
use Rattle.pass.specs.State.{State, state, made_of, made_beside}
use Rattle.pass.specs.Pass.{pass}
use Rattle.minimum.specs.declared.Minimum as Declared
use Rattle.iterate.specs.declared.Ending.TheVariants.{More}
use Rattle.iterate.specs.declared.SolveError.{SolveError}
use Rattle.iterate.specs.declared.SolveError.TheVariants.{NotConverged}
use Rattle.minimum.specs.Minimized.{Minimized, minimized_of}
use Rattle.minimum.specs.Counted.{Ends, budget}
use Rattle.minimum.specs.Laws.{minimized_of-err}
use Rattle.active.specs.Active.{step, spent, passes}
use Rattle.active.specs.Laws.{counted-more, counted-done}

unfoldable pub Left : Problem → (segments : List Segments) (fixed : List Bool) (q_amax linear : Float) (made : ℕ) (s : State) → Minimized
Left (problem originals n m q c e b) segments fixed q_amax linear made s =
    run (step (problem originals n m q c e b) segments fixed q_amax linear) spent (budget n - made) made (more s)

module _ (originals n m : ℕ) (q c e b : List Float) (segments : List Segments) (fixed : List Bool) (q_amax linear : Float) where
  abbrev p : Problem
  p = problem originals n m q c e b

  pub all-left : {f : Kept} (i : Iterate) (l : List Float) → f ≡ new →
      Left p segments fixed q_amax linear 0 (state i f l) ≡ passes p segments fixed q_amax linear i l
  unfolding Left passes
  all-left i l e = rw e (run-all _ _ (budget n) (state i new l))

  module _ (s : State) (made : ℕ) {r : Minimized} (left : Left p segments fixed q_amax linear made s ≡ r) where
    pub all-spent : budget n ≤ made → minimized_of n m (Err NotConverged) ≡ r
    unfolding Left
    all-spent h = minimized_of-err n m NotConverged ∙ run-spent _ _ (budget n) made s h ∙ left

    -- after a pass
    module _ (t : Made) (l : List Float) (under : made < budget n) (gave : made_of n m t l ≡ pass p segments fixed q_amax linear s) where
      pub again : t.passed.ending ≡ More →
          Left p segments fixed q_amax linear (made + 1) (state t.passed.iterate (kept_of t.factoring) l) ≡ r
      unfolding Left step
      again g = run-more _ _ (budget n) made s _ under (rw (← gave, made_beside) (counted-more t.passed (made + 1) n m _ l g)) ∙ left

      pub ended : (a : Result Declared.Minimum SolveError) → Ends t.passed made a → minimized_of n m a ≡ r
      unfolding Left step
      ended a f = run-done _ _ (budget n) made s under (rw (← gave, made_beside) (counted-done (made + 1) _ l _ (f n m))) ∙ left

-- ---- the slices that each pass is lent keep their lengths
pub record Same (room q_free e_free gram l room₀ qFree₀ eFree₀ gram₀ l₀ : List Float) : Type 0 where
  pub of_room : length room ≡ length room₀
  pub of_q : length q_free ≡ length qFree₀
  pub of_e : length e_free ≡ length eFree₀
  pub of_gram : length gram ≡ length gram₀
  pub of_l : length l ≡ length l₀

pub same-room : {originals n m : ℕ} {room q_free e_free gram l room₀ qFree₀ eFree₀ gram₀ l₀ : List Float} →
    Same room q_free e_free gram l room₀ qFree₀ eFree₀ gram₀ l₀ → Room originals n m room₀ qFree₀ eFree₀ gram₀ →
    Room originals n m room q_free e_free gram
same-room s r =
    record {
      rows = rw s.of_room r.rows;
      columns = rw s.of_room r.columns;
      q_free_holds = rw s.of_q r.q_free_holds;
      e_free_holds = rw s.of_e r.e_free_holds;
      gram_room = rw s.of_gram r.gram_room;
    }
