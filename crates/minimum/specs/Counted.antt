-- qp.rs, `solve_piecewise_in_units`: when its passes end, in what answer, and how many are made.
use Rattle.std.specs.Prelude.{◌≡◌, ℕ, ◌+◌, ◌*◌, Result}
use Rattle.folds.specs.Run.{Pass, more, done}
use Rattle.iterate.specs.Iterate as Passes
use Rattle.iterate.specs.Iterate.{passed_of}
use Rattle.iterate.specs.declared.Passed.{Passed}
use Rattle.iterate.specs.declared.SolveError.{SolveError}
use Rattle.minimum.specs.declared.Minimum as Declared
use Rattle.minimum.specs.Minimized.{Minimized, optimal, refused, minimized_of}

-- ---- a pass, as one of the run's, whatever it hands on to the next: `continue`, or the answer with the number of passes made
unfoldable pub counted : {S : Type 0} (passes : ℕ) → Pass S Passes.Result → Pass S Minimized
counted passes (more s) = more s
counted passes (done (Passes.optimal x multipliers)) = done (optimal x multipliers passes)
counted passes (done (Passes.refused e)) = done (refused e)

-- the answer of a pass that ends, which is itself counted
abbrev pub Ends : Passed → (made : ℕ) → Result Declared.Minimum SolveError → Type 0
Ends passed made r = (n m : ℕ) → counted (made + 1) (passed_of n m passed) ≡ done (minimized_of n m r)

-- ---- at most so many: `for _ in 0..100 + 20 * n`
abbrev pub budget : ℕ → ℕ
budget n = 100 + 20 * n
