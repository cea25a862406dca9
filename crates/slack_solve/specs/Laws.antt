-- Laws of the definitions: what the calls of a solve give, put together, and how long an optimal answer is.
use Rattle.std.specs.Prelude.{◌≡◌, List, ℕ, ◌+◌, Float}
use Rattle.std.proofs.Common.{◌∙◌}
use Rattle.units.specs.Units.{column_scales, units_k, units_c, units_e, units_b}
use Rattle.segments.specs.declared.Segments.{Segments}
use Rattle.slack_scales.specs.SlackScales.{scales_with_slacks}
use Rattle.slacks.specs.Slacks.{with_slacks_q, with_slacks_e, with_zeros, segments_array, slacks_start}
use Rattle.iterate.specs.Problem.{problem}
use Rattle.minimum.specs.Minimized as Engine
use Rattle.minimum.specs.Counted.{budget}
use Rattle.minimum.specs.Laws.{Filled, Within}
use Rattle.in_units.specs.InUnits.{solve_piecewise_in_units}
use Rattle.in_units.specs.Laws as InUnits
use Rattle.original_units.specs.Original.{original}
use Rattle.original_units.specs.Laws.{original-filled, original-within}
use Rattle.quadratic.specs.Quadratic.{quadratic}
use Rattle.slack_solve.specs.SlackSolve.{solve_scaled, solve_with_slacks, solve}

-- ---- a solve
module _ (n m r : ℕ) (c b lower upper a row_lower row_upper at slopes start : List Float) where
  pub scaled-from : {s : Engine.Minimized} {c' b' uc ub first : List Float} {segments : List Segments} (uq ue scales columns : List Float) →
      c' ≡ with_zeros n r c → b' ≡ with_zeros m r b → uc ≡ units_c (n + r) c' scales → ub ≡ units_b (m + r) b' columns →
      segments ≡ segments_array n r lower upper at slopes row_lower row_upper scales → first ≡ slacks_start n r start a scales →
      s ≡ solve_piecewise_in_units (problem n (n + r) (m + r) uq uc ue ub) segments first →
      s ≡ solve_scaled n m r uq ue c b lower upper a row_lower row_upper at slopes start scales columns
  unfolding solve_scaled
  scaled-from uq ue scales columns f g h i j k s = s ∙ rw (h, i, j, k, f, g)

module _ (n m r : ℕ) (c e b lower upper a row_lower row_upper at slopes start : List Float) where
  pub with_slacks-from : {s t : Engine.Minimized} {scales columns uq ue : List Float} (q_all e_all : List Float) →
      scales ≡ scales_with_slacks n r q_all a → columns ≡ column_scales (n + r) (m + r) e_all →
      uq ≡ units_k (n + r) q_all scales → ue ≡ units_e (n + r) (m + r) e_all scales columns →
      t ≡ solve_scaled n m r uq ue c b lower upper a row_lower row_upper at slopes start scales columns →
      s ≡ original n m r e b a row_lower row_upper scales columns t →
      s ≡ solve_with_slacks n m r q_all e_all c e b lower upper a row_lower row_upper at slopes start
  unfolding solve_with_slacks
  with_slacks-from q_all e_all f g h i t s = s ∙ rw (t, h, i, f, g)

  pub solve-from : {s : Engine.Minimized} {q_all e_all : List Float} (q : List Float) → q_all ≡ with_slacks_q n r q → e_all ≡ with_slacks_e n m r e a →
      s ≡ solve_with_slacks n m r q_all e_all c e b lower upper a row_lower row_upper at slopes start →
      s ≡ solve (quadratic n m r q c e b lower upper a row_lower row_upper at slopes start)
  unfolding solve
  solve-from q f g s = s ∙ rw (f, g)

-- ---- an optimal answer has x's n entries and m + r multipliers, and its passes are from 1 to the budget
module _ (n m r : ℕ) (q c e b lower upper a row_lower row_upper at slopes start : List Float) where
  pub solve-filled : Filled n (m + r) (solve (quadratic n m r q c e b lower upper a row_lower row_upper at slopes start))
  unfolding solve solve_with_slacks
  solve-filled = original-filled n m r e b a row_lower row_upper _ _ _

  pub solve-within : Within (budget (n + r)) (solve (quadratic n m r q c e b lower upper a row_lower row_upper at slopes start))
  unfolding solve solve_with_slacks solve_scaled
  solve-within = original-within n m r e b a row_lower row_upper _ _ (budget (n + r)) _ (InUnits.solve-within n (n + r) (m + r) _ _ _ _ _ _)
