-- Laws of the definitions: the answers of a call.
use Rattle.std.specs.Prelude.{◌≡◌, refl, List, true, false, ℕ, ◌<◌, Float}
use Rattle.std.proofs.Math.Path.{sym}
use Rattle.folds.specs.Fold.{pick_true, pick_false}
use Rattle.sizes.specs.Sizes as Sizes
use Rattle.minimum.specs.Minimized as Engine
use Rattle.quadratic.specs.Quadratic.{Quadratic, quadratic, shaped, blank}
use Rattle.quadratic.specs.Laws.{many_refused}
use Rattle.slack_solve.specs.SlackSolve.{solve}
use Rattle.outputs.specs.Piecewise.{wrong_shape, blank_bound, engine}
use Rattle.piecewise.specs.Piecewise.{solve_piecewise}

-- ---- the answers of a call
module _ (n m r : ℕ) (q c e b lower upper a row_lower row_upper at slopes start : List Float) (x multipliers : ℕ) where
  abbrev p : Quadratic
  p = quadratic n m r q c e b lower upper a row_lower row_upper at slopes start

  pub wrong_shape_lem : shaped p x multipliers ≡ false → solve_piecewise p x multipliers ≡ wrong_shape
  unfolding solve_piecewise
  wrong_shape_lem f = sym (pick_false _ _ f refl)

  pub too_many : Sizes.originals < n → solve_piecewise p x multipliers ≡ wrong_shape
  too_many h = wrong_shape_lem (many_refused n m r q c e b lower upper a row_lower row_upper at slopes start x multipliers h)

  pub blank-bound : shaped p x multipliers ≡ true → blank n r lower upper row_lower row_upper ≡ true → solve_piecewise p x multipliers ≡ blank_bound
  unfolding solve_piecewise
  blank-bound t u = sym (pick_true _ _ t (pick_true _ _ u refl))

  pub engine-answers : {s : Engine.Minimized} → shaped p x multipliers ≡ true → blank n r lower upper row_lower row_upper ≡ false → s ≡ solve p →
      solve_piecewise p x multipliers ≡ engine s
  unfolding solve_piecewise
  engine-answers t f s = sym (pick_true _ _ t (pick_false _ _ f (rw s)))
