-- Laws of the definitions: what a pass gives, by what it ended in, another point's board, and what every pass keeps.
use Rattle.std.specs.Prelude.{◌≡◌, refl, List, map, ℕ, length, take, Option, Float}
use Rattle.std.proofs.Common.{sym, ◌∙◌}
use Rattle.std.proofs.lemmas.List.{length-map}
use Rattle.folds.specs.Run.{more, done}
use Rattle.segments.specs.Segments.{AllPlaced}
use Rattle.segments.specs.declared.Segments.{Segments}
use Rattle.blocking.specs.declared.Board.{Board}
use Rattle.iterate.specs.declared.Iterate.{Iterate}
use Rattle.iterate.specs.declared.Ending.TheVariants.{More, Optimal, Failed}
use Rattle.iterate.specs.declared.SolveError.{SolveError}
use Rattle.iterate.specs.declared.Passed.{Passed}
use Rattle.iterate.specs.Iterate.{with_board, optimal, refused, passed, passed_of, Consistent}

module _ (n m : ℕ) (r : Passed) where
  pub passed-more : r.ending ≡ More → passed_of n m r ≡ more r.iterate
  unfolding passed_of passed
  passed-more e = rw e

  pub passed-optimal : {multipliers : List Float} → r.ending ≡ Optimal multipliers →
      passed_of n m r ≡ done (optimal (take n r.iterate.board.x) (take m multipliers))
  unfolding passed_of passed
  passed-optimal e = rw e

  pub passed-failed : {error : SolveError} → r.ending ≡ Failed error → passed_of n m r ≡ done (refused error)
  unfolding passed_of passed
  passed-failed e = rw e

-- ---- another point
pub board_is : (i : Iterate) (board : Board) (released : Option ℕ) → (with_board i board released).board ≡ board
unfolding with_board
board_is i board released = refl

-- ---- what every pass keeps
pub board_consistent : (n : ℕ) (segments : List Segments) (i : Iterate) (board : Board) (released : Option ℕ) → AllPlaced n segments board.state →
    Consistent n segments (with_board i board released)
unfolding with_board
board_consistent n segments i board released placed = record { placed = placed }

-- the length of an array that a struct holds, as the borrow checker tells it
pub length_mapped : (X Y : Type 0) (f : X → Y) (l : List X) (n : ℕ) → length (map f l) ≡ n → length l ≡ n
length_mapped X Y f l n e = sym (length-map l f) ∙ e
