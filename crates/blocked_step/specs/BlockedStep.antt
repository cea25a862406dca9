-- qp.rs, the blocked step of a pass of `solve_piecewise_in_units`.
use Rattle.std.specs.Prelude.{ℕ, List, length, Float, Option, None}
use Rattle.folds.specs.Run.{Pass, more}
use Rattle.vector.specs.Vector.{Below}
use Rattle.matrix.specs.Matrix.{index}
use Rattle.segments.specs.Segments.{segments_at, state_at, AllPlaced}
use Rattle.segments.specs.declared.Segments.{Segments}
use Rattle.lent_segments.specs.Lent.{segment_of}
use Rattle.step_length.specs.declared.Side.{Side}
use Rattle.blocking.specs.Blocking.{block}
use Rattle.blocking.specs.declared.Board.{Board}
use Rattle.stepping.specs.Stepping.{move_along}
use Rattle.iterate.specs.Iterate.{Result, with_board, Consistent}
use Rattle.iterate.specs.declared.Iterate.{Iterate}
use Rattle.iterate.specs.declared.Passed.{Passed}

-- `for k in 0..indices.len() { x[indices[k]] = (x_free[k] + step * direction[k]).clamp(lower[k], upper[k]); }`, and `block(..)` of the variable at k
unfoldable pub move_and_block : (segments : List Segments) (indices : List ℕ) (x_free direction lower upper : List Float) (step : Float) (k : ℕ) →
    Side → (released : Option ℕ) → Board → Board
move_and_block segments indices x_free direction lower upper step k side released board =
    let i = index indices k in
    block i side (segments_at segments i) step released (segment_of (state_at board.state i))
    (record { x = move_along indices x_free direction step lower upper board.x; state = board.state; refused = board.refused })

-- the variables, as many as there are, stay placed
abbrev pub Keeps : (indices : List ℕ) (segments : List Segments) → Iterate → (r : Passed) → Type 0
Keeps indices segments i r =
    (n : ℕ) → Below (length indices) indices n → AllPlaced n segments i.board.state → Consistent n segments r.iterate

-- `released = None; continue;`
unfoldable pub blocked_pass : Iterate → Board → Pass Iterate Result
blocked_pass i board = more (with_board i board None)
