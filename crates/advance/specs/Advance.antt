-- qp.rs, the end of a pass of `solve_piecewise_in_units` that no variable blocks: the whole step is made, and a held variable is released.
use Rattle.std.specs.Prelude.{ℕ, false, List, length, set, take, replicate, Float, Some}
use Rattle.folds.specs.Fold.{pick, Out, out}
use Rattle.folds.specs.Run.{Pass, more, done}
use Rattle.segments.specs.declared.State.TheVariants.{Free}
use Rattle.blocking.specs.declared.Board.{Board}
use Rattle.stepping.specs.Stepping.{settle}
use Rattle.releasing.specs.declared.Outcome.{Outcome}
use Rattle.releasing.specs.declared.Outcome.TheVariants.{Enter, Answer, NotConverged}
use Rattle.iterate.specs.declared.SolveError.TheVariants.{NotConverged}
use Rattle.iterate.specs.Iterate.{Result, optimal, refused, with_board}
use Rattle.iterate.specs.declared.Iterate.{Iterate}

-- ---- the whole step
-- `if moved { refused.fill(false); }`
unfoldable pub cleared : Board → Out (List Float) → Board
cleared board (out moved x) =
    record { x = x; state = board.state; refused = pick moved (replicate (length board.refused) false) board.refused }

unfoldable pub settled : (indices : List ℕ) (target lower upper : List Float) (tolerance : Float) → Board → Board
settled indices target lower upper tolerance board = cleared board (settle indices target lower upper tolerance board.x)

-- ---- the release
-- `state[i] = State::Free(segment)`
unfoldable pub entered : (i segment : ℕ) → Board → Board
entered i segment board = record { x = board.x; state = set board.state i (Free segment); refused = board.refused }

-- `match entering { Some(&(_, i, segment)) => { ..; released = Some(i); }, None if wrong.is_empty() => return Ok(x), None => return Err(..) }`
unfoldable pub decided : (n : ℕ) → Iterate → Board → (multipliers : List Float) → Outcome → Pass Iterate Result
decided n i board multipliers (Enter v segment) = more (with_board i (entered v segment board) (Some v))
decided n i board multipliers Answer = done (optimal (take n board.x) multipliers)
decided n i board multipliers NotConverged = done (refused NotConverged)
