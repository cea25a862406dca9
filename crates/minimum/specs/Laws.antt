-- Laws of the definitions: what each verdict answers, what the last pass answers, and how many passes and how many entries an answer has.
use Rattle.std.specs.Prelude.{◌≡◌, List, ℕ, ◌+◌, ◌<◌, ◌≤◌, length, take, Float, Result, Ok, Err, IfOk}
use Rattle.std.proofs.Math.Path.{refl, subst}
use Rattle.std.proofs.Common.{arith}
use Rattle.std.proofs.Math.Seq.{length-take-le}
use Rattle.folds.specs.Run.{Pass, more, done, Kept}
use Rattle.iterate.specs.Iterate as Iterate
use Rattle.iterate.specs.Laws.{passed-optimal, passed-failed}
use Rattle.iterate.specs.declared.Ending.TheVariants.{Optimal, Failed}
use Rattle.iterate.specs.declared.Passed.{Passed}
use Rattle.iterate.specs.declared.SolveError.{SolveError}
use Rattle.minimum.specs.declared.Minimum as Declared
use Rattle.minimum.specs.declared.CappedMinimum.{CappedMinimum}
use Rattle.minimum.specs.Minimized.{Minimized, optimal, refused, minimized_of}
use Rattle.minimum.specs.Capped as Capped
use Rattle.minimum.specs.Capped.{capped_of}
use Rattle.minimum.specs.Counted.{counted, Ends}

-- ---- what the code's answers stand for
pub minimized_of-ok : (n m : ℕ) (s : Declared.Minimum) → minimized_of n m (Ok s) ≡ optimal (take n s.x) (take m s.multipliers) s.passes
unfolding minimized_of
minimized_of-ok n m s = refl

pub minimized_of-err : (n m : ℕ) (e : SolveError) → minimized_of n m (Err e) ≡ refused e
unfolding minimized_of
minimized_of-err n m e = refl

pub capped_of-ok : (n w : ℕ) (s : CappedMinimum) →
    capped_of n w (Ok s) ≡ Capped.optimal (take n s.minimum.x) (take w s.minimum.multipliers) s.minimum.passes s.raise
unfolding capped_of
capped_of-ok n w s = refl

pub capped_of-err : (n w : ℕ) (e : SolveError) → capped_of n w (Err e) ≡ Capped.refused e
unfolding capped_of
capped_of-err n w e = refl

-- ---- a pass goes on, or ends in an answer
pub counted-goes : {S : Type 0} (passes : ℕ) (s : S) → counted passes (more s) ≡ more s
unfolding counted
counted-goes passes s = refl

-- in the same one, whatever is handed on to the next pass
pub counted-ends : {S T : Type 0} (passes : ℕ) {a : Minimized} (r : Iterate.Result) → counted {S = S} passes (done r) ≡ done a →
    counted {S = T} passes (done r) ≡ done a
unfolding counted
counted-ends passes (Iterate.optimal x multipliers) e = cc
counted-ends passes (Iterate.refused error) e = cc

module _ (p : Passed) (made : ℕ) where
  pub ends-optimal : {multipliers : List Float} → p.ending ≡ Optimal multipliers →
      Ends p made (Ok (record { x = p.iterate.board.x; multipliers = multipliers; passes = made + 1 }))
  unfolding counted minimized_of
  ends-optimal e n m = rw (passed-optimal n m p e)

  pub ends-failed : {error : SolveError} → p.ending ≡ Failed error → Ends p made (Err error)
  unfolding counted minimized_of
  ends-failed e n m = rw (passed-failed n m p e)

-- ---- the number of passes is from 1 to the budget
abbrev pub Within : (budget : ℕ) → Minimized → Type 0
Within budget (optimal x multipliers passes) = (1 ≤ passes) × (passes ≤ budget)
Within budget (refused e) = Unit {0}

pub counted-within : {S : Type 0} (budget made : ℕ) (r : Pass S Iterate.Result) → made < budget → Kept (λ _. Unit {0}) (Within budget) (counted (made + 1) r)
unfolding counted Kept
counted-within budget made (more s) h = tt
counted-within budget made (done (Iterate.optimal x multipliers)) h = (omega arith, omega arith)
counted-within budget made (done (Iterate.refused error)) h = tt

-- ---- an optimal answer has x's n entries and m multipliers
abbrev pub Filled : (n m : ℕ) → Minimized → Type 0
Filled n m (optimal x multipliers passes) = (length x ≡ n) × (length multipliers ≡ m)
Filled n m (refused e) = Unit {0}

pub solve-filled : (n m : ℕ) (r : Result Declared.Minimum SolveError) → IfOk r (λ s. (n ≤ length s.x) × (m ≤ length s.multipliers)) →
    {a : Minimized} → minimized_of n m r ≡ a → Filled n m a
unfolding minimized_of
solve-filled n m (Ok s) h e = subst (Filled n m) e (length-take-le n s.x h.0, length-take-le m s.multipliers h.1)
solve-filled n m (Err x) h e = subst (Filled n m) e tt
