-- Laws of the definitions: where the step is made whole, and where a variable is released, each variable stays placed.
use Rattle.std.specs.Prelude.{List, ℕ, ◌<◌, length, Float}
use Rattle.folds.specs.Fold.{Out, out}
use Rattle.segments.specs.Segments.{last, segments_at, AllPlaced}
use Rattle.segments.specs.Laws.{set-placed}
use Rattle.segments.specs.declared.State.TheVariants.{Free}
use Rattle.segments.specs.declared.Segments.{Segments}
use Rattle.blocking.specs.declared.Board.{Board}
use Rattle.stepping.specs.Stepping.{settle}
use Rattle.advance.specs.Advance.{cleared, settled, entered}

-- the whole step leaves the active set
pub settled-placed : (n : ℕ) (segments : List Segments) (indices : List ℕ) (target lower upper : List Float) (tolerance : Float) (board : Board) →
    AllPlaced n segments board.state → AllPlaced n segments (settled indices target lower upper tolerance board).state
unfolding settled
settled-placed n segments indices target lower upper tolerance board placed = go (settle indices target lower upper tolerance board.x)
  where
    go : (o : Out (List Float)) → AllPlaced n segments (cleared board o).state
    go (out moved x) = unfold cleared in placed

pub entered-placed : (n : ℕ) (segments : List Segments) (i segment : ℕ) (board : Board) → i < length board.state →
    segment < last (segments_at segments i) → AllPlaced n segments board.state → AllPlaced n segments (entered i segment board).state
unfolding entered
entered-placed n segments i segment board l h placed = set-placed n segments board.state i (Free segment) l h placed
