-- qp.rs, a pass of `solve_piecewise_in_units`: the step on the free variables `solved`, from the factor kept across iterations where Q is positive
-- definite on them, and otherwise, or if that misses, from the eigendecomposition. Q is the whole problem's, n by n.
use Rattle.std.specs.Prelude.{ℕ, List, length, Float}
use Rattle.std.proofs.Math.Option.{Option}
use Rattle.factoring.specs.Kept.{Kept, Factor, factor, reset, update, kept_of}
use Rattle.scaled.specs.System.{System, system}
use Rattle.range_space.specs.Factored.{FactoredSolution, some, none, solve_factored}
use Rattle.solution.specs.Solution as Solution
use Rattle.solution.specs.Solution.{Kkt, optimum}
use Rattle.noisy_kkt.specs.NoisyKkt.{solve_noisy_kkt}
use Rattle.free_problem.specs.FreeProblem.{Gathered}
use Rattle.free_solve.specs.declared.Solved.{Solved}

-- the answer, and the factoring that is left, with the factor
pub record FreeSolution : Type 0 where
  pub answer : Kkt
  pub factoring : Kept
  pub factor : List Float

-- of what the code leaves, with the step as x, its multipliers, and the factor as l
unfoldable pub solution_of : Solved → (x multipliers : List Float) → (l : List Float) → FreeSolution
solution_of r x multipliers l = record { answer = Solution.answer r.verdict x multipliers; factoring = kept_of r.factoring; factor = l }

-- `.and_then(|cholesky| solve_factored(cholesky, problem, noise))`
unfoldable pub from_factor : (held : Option (List ℕ)) (l : List Float) → System → (noise : Float) → FactoredSolution
from_factor Option.none l s noise = none
from_factor (Option.some held) l s noise = solve_factored l s noise

-- `None => { factoring.reset(); solve_noisy_kkt(&q_free, &gradient_free, &e_free, &residual, noise)? }`
unfoldable pub from_eigenvectors : Kept → (l : List Float) → System → (noise : Float) → FreeSolution
from_eigenvectors f l s noise = record { answer = solve_noisy_kkt s noise; factoring = reset f; factor = l }

-- `match factored`, with `Some(solution) => Some(solution)`
unfoldable pub matched : Kept → (l : List Float) → System → (noise : Float) → FactoredSolution → FreeSolution
matched f l s noise (some x multipliers) = record { answer = optimum x multipliers; factoring = f; factor = l }
matched f l s noise none = from_eigenvectors f l s noise

unfoldable pub solve_updated : Factor → System → (noise : Float) → FreeSolution
solve_updated (factor f l) s noise = matched f l s noise (from_factor f.held l s noise)

-- `let problem = (&q_free, &gradient_free, &e_free, &residual)`, of k variables
unfoldable pub free_system : (k : ℕ) → Gathered → System
free_system k g = system k (length g.kept) g.q_free g.gradient g.e_free g.residual

-- `let factored = factoring.update(q, solved)..`, `let solution = match factored { .. }`
unfoldable pub solve_free : (q : List Float) (n : ℕ) (solved : List ℕ) → Gathered → Kept → (l : List Float) → FreeSolution
solve_free q n solved g f l = solve_updated (update q n solved f l) (free_system (length solved) g) g.noise
