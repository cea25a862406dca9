-- Laws of the definitions: what the calls of a solve give, put together, and what a result holds.
use Rattle.std.specs.Prelude.{◌≡◌, Bool, true, false, Result, Ok, List, ℕ, ◌*◌, ◌≤◌, length, take, Float}
use Rattle.std.proofs.Common.{sym, ◌∙◌, length-take-le}
use Rattle.std.proofs.Math.Path.{ap}
use Rattle.folds.specs.Fold.{pick}
use Rattle.sizes.specs.Sizes as Sizes
use Rattle.variable_set.specs.Rising.{Rising}
use Rattle.factoring.specs.declared.Factoring.{Factoring}
use Rattle.factoring.specs.Kept.{Kept, Factor, factor, reset, update, option_of, kept_of, Good}
use Rattle.factoring.specs.Laws.{held-is, update-regular}
use Rattle.scaled.specs.System.{System, system}
use Rattle.range_space.specs.Factored.{found_of}
use Rattle.range_space.specs.Laws.{found-is}
use Rattle.solution.specs.declared.KktError.{KktError}
use Rattle.solution.specs.Solution.{answer}
use Rattle.noisy_kkt.specs.NoisyKkt.{solve_noisy_kkt}
use Rattle.free_problem.specs.declared.Free.{Free}
use Rattle.free_problem.specs.FreeProblem.{Gathered, gathered_of}
use Rattle.free_problem.specs.Laws.{parts}
use Rattle.free_solve.specs.declared.Solved as Result
use Rattle.free_solve.specs.FreeSolve.{FreeSolution, solution_of, from_factor, from_eigenvectors, matched, solve_updated, free_system, solve_free}
use Rattle.free_solve.specs.Regular.{Regular}

-- ---- what a result holds
module _ (r : Result.Solved) (x multipliers l : List Float) (s : FreeSolution) (e : solution_of r x multipliers l ≡ s) where
  pub left-answer : s.answer ≡ answer r.verdict x multipliers
  unfolding solution_of
  left-answer = ap (λ (z : FreeSolution). z.answer) (sym e)

  pub left-factoring : s.factoring ≡ kept_of r.factoring
  unfolding solution_of
  left-factoring = ap (λ (z : FreeSolution). z.factoring) (sym e)

  pub left-factor : s.factor ≡ l
  unfolding solution_of
  left-factor = ap (λ (z : FreeSolution). z.factor) (sym e)

-- ---- what the calls give
module _ (f : Factoring) (l : List Float) (s : System) (noise : Float) where
  module _ (found : Bool) (x multipliers : List Float)
      (e : found_of found x multipliers ≡ from_factor (option_of f.factored f.held) l s noise) where
    answered : found_of found x multipliers ≡ from_factor (kept_of f).held l s noise
    answered = rw (held-is f) e

    -- by whether the factored solve found an optimum
    pub after-found : found ≡ true →
        solution_of (record { verdict = Ok tt; factoring = f }) x multipliers l ≡ solve_updated (factor (kept_of f) l) s noise
    unfolding solution_of solve_updated matched pick
    after-found t = rw (← answered, found-is found x multipliers, t)

    pub after_missed : (d : Factoring) (v : Result (Unit {0}) KktError) (y z : List Float) → found ≡ false → answer v y z ≡ solve_noisy_kkt s noise →
        kept_of d ≡ reset (kept_of f) → solution_of (record { verdict = v; factoring = d }) y z l ≡ solve_updated (factor (kept_of f) l) s noise
    unfolding solution_of solve_updated matched from_eigenvectors pick
    after_missed d v y z h a r = rw (← answered, found-is found x multipliers, h, a, r)

-- the system in the free variables, of what the code leaves
pub free-system : (k m : ℕ) (r : Free) (q_free e_free : List Float) → r.columns ≤ length r.kept →
    free_system k (gathered_of k m r q_free e_free)
    ≡ system k r.columns (take (k * k) q_free) (take k r.gradient) (take (k * r.columns) e_free) (take r.columns r.residual)
unfolding free_system
free-system k m r q_free e_free h =
    let p = parts k m r q_free e_free in
    rw (p.square_is, p.gradient_is, p.entries_are, p.residual_is, p.kept_are, length-take-le r.columns r.kept h)

pub free-from : {u : Factor} {r : FreeSolution} {s : System} {noise : Float} (q : List Float) (n : ℕ) (solved : List ℕ) (g : Gathered) (f : Kept)
    (l : List Float) → u ≡ update q n solved f l → free_system (length solved) g ≡ s → g.noise ≡ noise → r ≡ solve_updated u s noise →
    r ≡ solve_free q n solved g f l
unfolding solve_free
free-from q n solved g f l e s z h = h ∙ rw (e, s, z)

-- a factor that `update` gives may be divided by
pub regular-from : (o : ℕ) → o ≤ Sizes.originals → (q : List Float) (n : ℕ) (solved : List ℕ) → Rising o solved → (f : Factoring) (l : List Float) →
    Good o f l → (u : Factoring) {m : List Float} → factor (kept_of u) m ≡ update q n solved (kept_of f) l →
    length solved * length solved ≤ length m → Regular (length solved) u.factored m
regular-from o few q n solved r f l g u e h = record { holds = h; diagonal = update-regular o few q n solved r f l g u e }
