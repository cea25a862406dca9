-- qp.rs, `solve_piecewise_in_units`: what a pass gives, and what every pass keeps.
use Rattle.std.specs.Prelude.{ℕ, ◌≡◌, List, Float, take, Option}
use Rattle.folds.specs.Run.{Pass, more, done}
use Rattle.segments.specs.Segments.{AllPlaced}
use Rattle.segments.specs.declared.Segments.{Segments}
use Rattle.blocking.specs.declared.Board.{Board}
use Rattle.iterate.specs.declared.Iterate.{Iterate}
use Rattle.iterate.specs.declared.Ending.{Ending}
use Rattle.iterate.specs.declared.Ending.TheVariants.{More, Optimal, Failed}
use Rattle.iterate.specs.declared.SolveError.{SolveError}
use Rattle.iterate.specs.declared.Passed.{Passed}

-- another point with its active set
unfoldable pub with_board : Iterate → Board → (released : Option ℕ) → Iterate
with_board i board released = record { board = board; released = released; freed = i.freed; freed_at = i.freed_at }

-- `Ok(x)` with the multipliers, and what is refused
pub data Result : Type 0 where
  optimal : (x multipliers : List Float) → Result
  refused : SolveError → Result

-- `continue`, `return Ok(x)`, `return Err(..)`, with n variables and m columns
unfoldable pub passed : (n m : ℕ) → Ending → Iterate → Pass Iterate Result
passed n m More i = more i
passed n m (Optimal multipliers) i = done (optimal (take n i.board.x) (take m multipliers))
passed n m (Failed e) i = done (refused e)

-- of what the code leaves
unfoldable pub passed_of : (n m : ℕ) → Passed → Pass Iterate Result
passed_of n m r = passed n m r.ending r.iterate

-- what the code leaves, whatever the number of columns
abbrev pub Gives : (n : ℕ) (r : Passed) → Pass Iterate Result → Type 0
Gives n r p = (m : ℕ) → passed_of n m r ≡ p

-- and of variables
abbrev pub Leaves : (r : Passed) → Pass Iterate Result → Type 0
Leaves r p = (n : ℕ) → Gives n r p

-- what every pass keeps: each variable is held at one of its points or free between two
pub record Consistent (n : ℕ) (segments : List Segments) (i : Iterate) : Type 0 where
  pub placed : AllPlaced n segments i.board.state
