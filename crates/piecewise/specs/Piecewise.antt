-- qp.rs, `solve_piecewise` and `solve_bounded`: what a call answers and leaves.
use Rattle.std.specs.Prelude.{ℕ, List, length, Float}
use Rattle.folds.specs.Fold.{pick}
use Rattle.arith.specs.Float.{f0}
use Rattle.vector.specs.Vector.{filled}
use Rattle.quadratic.specs.Quadratic.{Quadratic, quadratic, shaped, blank}
use Rattle.slack_solve.specs.SlackSolve.{solve}
use Rattle.outputs.specs.Piecewise.{PiecewiseAnswer, wrong_shape, blank_bound, engine, Written}

-- ---- the call's answer
unfoldable pub solve_piecewise : Quadratic → (x_length multipliers_length : ℕ) → PiecewiseAnswer
solve_piecewise (quadratic n m r q c e b lower upper a row_lower row_upper at slopes start) x multipliers =
    let p = quadratic n m r q c e b lower upper a row_lower row_upper at slopes start in
    pick (shaped p x multipliers) (pick (blank n r lower upper row_lower row_upper) blank_bound (engine (solve p))) wrong_shape

-- `solve_bounded`: `solve_piecewise(q, c, e, b, bounds, &Kinks::none(q.nrows()), start)`
abbrev pub bounded : (n m r : ℕ) (q c e b lower upper a row_lower row_upper start : List Float) → Quadratic
bounded n m r q c e b lower upper a row_lower row_upper start =
    quadratic n m r q c e b lower upper a row_lower row_upper (filled n f0) (filled n f0) start

-- the contract of the calls
abbrev pub Answered : Quadratic → (r : ℕ) (x x' multipliers multipliers' : List Float) (passes passes' : ℕ) → Type 0
Answered p r x x' multipliers multipliers' passes passes' =
    Written (solve_piecewise p (length x) (length multipliers)) r x x' multipliers multipliers' passes passes'
