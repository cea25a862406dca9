-- Laws of the definitions: what a function's calls leave, put together.
use Rattle.std.specs.Prelude.{◌≡◌, List, ℕ, ◌-◌, Float}
use Rattle.std.proofs.Common.{◌∙◌}
use Rattle.constraints.specs.Constraints.{constraints, smallest_feasible, multipliers}
use Rattle.scaled.specs.System.{system}
use Rattle.solution.specs.Solution.{Kkt, singular, judged}
use Rattle.reduced.specs.Reduced.{reduced, none, gradient, reduced_gradient, reduced_hessian, range_part, moved}
use Rattle.scaled_kkt.specs.ScaledKkt.{least, unknown, stepped, minimum, checked_at, solve_over}

module _ (n d : ℕ) (k c z x0 : List Float) where
  pub minimum-from : {x v g values vectors : List Float} {cutoff : Float} → g ≡ reduced_gradient n d k c z x0 →
      reduced values vectors cutoff ≡ reduced_hessian n d k z → v ≡ range_part d values vectors cutoff g → x ≡ moved n d x0 z v →
      least x ≡ minimum n d k c z x0
  unfolding minimum stepped
  minimum-from a e b f = rw (← e, f, b, a)

  pub minimum-none : none ≡ reduced_hessian n d k z → unknown ≡ minimum n d k c z x0
  unfolding minimum stepped
  minimum-none e = rw (← e)

module _ (n m : ℕ) (k c e b : List Float) (noise : Float) (rank : ℕ) (range null coefficients : List Float) (pivots : List ℕ) where
  pub over-least : {r : Kkt} {x0 g l : List Float} (x : List Float) →
      x0 ≡ smallest_feasible n m range coefficients b pivots rank → least x ≡ minimum n (n - rank) k c null x0 →
      g ≡ gradient n k c x → l ≡ multipliers n m range coefficients g pivots rank → r ≡ judged (system n m k c e b) x l noise →
      r ≡ solve_over (system n m k c e b) noise (constraints rank range null coefficients pivots)
  unfolding solve_over checked_at
  over-least x a f g h i = i ∙ rw (h, g, ← a, ← f)

  pub over-unknown : {x0 : List Float} → x0 ≡ smallest_feasible n m range coefficients b pivots rank →
      unknown ≡ minimum n (n - rank) k c null x0 →
      singular ≡ solve_over (system n m k c e b) noise (constraints rank range null coefficients pivots)
  unfolding solve_over checked_at
  over-unknown a f = rw (← a, ← f)
