-- qp.rs, `search_multiplier`: the doubling and the cuts.
use Rattle.std.specs.Prelude.{ℕ, List, Float}
use Rattle.folds.specs.Fold.{pick}
use Rattle.folds.specs.Run.{Pass, done}
use Rattle.folds.specs.Until.{until}
use Rattle.vector.specs.Vector.{add_scalar}
use Rattle.iterate.specs.declared.SolveError.TheVariants.{NotConverged}
use Rattle.minimum.specs.Minimized as Engine
use Rattle.quadratic.specs.Quadratic.{quadratic}
use Rattle.slack_solve.specs.SlackSolve as SlackSolve
use Rattle.turnover.specs.Turnover.{reaches}
use Rattle.bracket.specs.declared.Bracket.{Bracket}
use Rattle.bracket.specs.Bracket.{cut, closed}
use Rattle.bracket.specs.Ends.{ups, width}
use Rattle.search_step.specs.Step.{Ended, found, refused, double_by, cut_by}

-- what the closure `solve` captures: `q`, `c`, `e`, `b`, `bounds` and `kinks`
pub data Problem : Type 0 where
  problem : (n m r : ℕ) (q c e b lower upper a row_lower row_upper at slopes : List Float) → Problem

-- `solve(extra, start)`: the slopes are `kinks.slopes.add_scalar(extra)`
unfoldable pub solve : Problem → (extra : Float) (start : List Float) → Engine.Minimized
solve (problem n m r q c e b lower upper a row_lower row_upper at slopes) extra start =
    SlackSolve.solve (quadratic n m r q c e b lower upper a row_lower row_upper at (add_scalar n slopes extra) start)

-- ---- the doubling
unfoldable pub double_step : Problem → (limit : Float) → Bracket → Pass Bracket Ended
double_step (problem n m r q c e b lower upper a row_lower row_upper at slopes) limit t =
    double_by n at limit t (solve (problem n m r q c e b lower upper a row_lower row_upper at slopes) t.high t.warm)

-- at most so many steps as there are doublings up to half of the largest float
unfoldable pub reached_or : (spent : Ended) → Problem → (limit : Float) → Bracket → Ended
reached_or spent p limit b = until (double_step p limit) spent ups b

unfoldable pub reached : Problem → (limit : Float) → Bracket → Ended
reached p limit b = reached_or (refused NotConverged) p limit b

-- ---- the cuts
unfoldable pub cut_at : Problem → (limit : Float) → Bracket → Pass Bracket Ended
cut_at (problem n m r q c e b lower upper a row_lower row_upper at slopes) limit t =
    cut_by n at limit t (solve (problem n m r q c e b lower upper a row_lower row_upper at slopes) t.middle t.best)

-- `return Ok(best)` where it reaches the limit, or where no float lies between the ends
unfoldable pub cut_step : Problem → (limit : Float) → Bracket → Pass Bracket Ended
cut_step (problem n m r q c e b lower upper a row_lower row_upper at slopes) limit t =
    pick (reaches n t.high_value limit t.best)
    (done (found t))
    (pick (closed (cut limit t))
    (done (found t))
    (cut_at (problem n m r q c e b lower upper a row_lower row_upper at slopes) limit (cut limit t)))

-- at most so many steps as there are floats between the ends; what would follow the loop is `unreachable!`
unfoldable pub narrowed_or : (spent : Ended) → Problem → (limit : Float) → Bracket → Ended
narrowed_or spent p limit b = until (cut_step p limit) spent width b

unfoldable pub narrowed : Problem → (limit : Float) → Bracket → Ended
narrowed p limit b = narrowed_or (refused NotConverged) p limit b

-- ---- the one after the other
unfoldable pub then_narrowed : Problem → (limit : Float) → Ended → Ended
then_narrowed p limit (found b) = narrowed p limit b
then_narrowed p limit (refused e) = refused e

unfoldable pub reach_and_narrow : Problem → (limit : Float) → Bracket → Ended
reach_and_narrow p limit b = then_narrowed p limit (reached p limit b)
