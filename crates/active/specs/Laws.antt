-- Laws of the definitions: what a pass gives, and how many passes are made.
use Rattle.std.specs.Prelude.{◌≡◌, Bool, true, List, Float}
use Prim.Native.Nat.{ℕ, zero, suc, ◌+◌, ◌≤◌}
use Rattle.std.proofs.Common.{arith}
use Rattle.folds.specs.Run as Run
use Rattle.folds.specs.Run.{Pass, more, done, run}
use Rattle.factoring.specs.Kept.{Kept, new}
use Rattle.segments.specs.declared.Segments.{Segments}
use Rattle.iterate.specs.Problem.{Problem, problem}
use Rattle.iterate.specs.Iterate.{Result, passed_of}
use Rattle.iterate.specs.Laws.{passed-more}
use Rattle.iterate.specs.declared.Iterate.{Iterate}
use Rattle.iterate.specs.declared.Ending.TheVariants.{More}
use Rattle.iterate.specs.declared.Passed.{Passed}
use Rattle.pass.specs.State.{State, state, beside, beside-more, beside-done}
use Rattle.pass.specs.Pass.{pass}
use Rattle.minimum.specs.Minimized.{Minimized}
use Rattle.minimum.specs.Counted.{counted, budget}
use Rattle.minimum.specs.Laws.{counted-goes, counted-ends, Within, counted-within}
use Rattle.active.specs.Active.{step, spent, passes}

-- ---- a pass goes on, or ends in an answer, whatever it leaves of the factor
pub counted-more : (p : Passed) (passes n m : ℕ) (f : Kept) (l : List Float) → p.ending ≡ More →
    counted passes (beside f l (passed_of n m p)) ≡ more (state p.iterate f l)
counted-more p passes n m f l h = rw (passed-more n m p h, beside-more, counted-goes)

pub counted-done : (passes : ℕ) (f : Kept) (l : List Float) {a : Minimized} (p : Pass Iterate Result) →
    counted passes p ≡ done a → counted passes (beside f l p) ≡ done a
counted-done passes f l (more i) e = absurd (let k = counted-goes passes i in let z : ◌≡◌ {A = ℕ} 0 1 = cc in omega arith)
counted-done passes f l (done r) e = rw (beside-done f l r) (counted-ends passes r e)

-- ---- the number of passes is from 1 to the budget
module _ (p : Problem) (segments : List Segments) (fixed : List Bool) (q_amax linear : Float) (limit : ℕ) where
  run-within : (left made : ℕ) (r : Pass State Minimized) → left + made ≤ limit → Run.Kept (λ _. Unit {0}) (Within limit) r →
      Within limit (run (step p segments fixed q_amax linear) spent left made r)
  unfolding run step Run.Kept
  run-within zero made (done a) h k = k
  run-within zero made (more s) h k = tt
  run-within (suc left) made (done a) h k = k
  run-within (suc left) made (more s) h k =
      run-within left (made + 1) (counted (made + 1) (pass p segments fixed q_amax linear s)) (omega arith)
      (counted-within limit made (pass p segments fixed q_amax linear s) (omega arith))

pub passes-within : (originals n m : ℕ) (q c e b : List Float) (segments : List Segments) (fixed : List Bool) (q_amax linear : Float) (i : Iterate)
    (l : List Float) → Within (budget n) (passes (problem originals n m q c e b) segments fixed q_amax linear i l)
unfolding passes Run.Kept
passes-within originals n m q c e b segments fixed q_amax linear i l =
    run-within (problem originals n m q c e b) segments fixed q_amax linear (budget n) (budget n) 0 (more (state i new l)) (omega arith) tt
