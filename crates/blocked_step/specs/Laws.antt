-- A law of the definitions: where the step is blocked, each variable stays placed.
use Rattle.std.specs.Prelude.{◌≡◌, List, ℕ, ◌<◌, length, Float, Option}
use Rattle.std.proofs.Common.{arith}
use Rattle.sizes.specs.Sizes as Sizes
use Rattle.matrix.specs.Matrix.{index}
use Rattle.segments.specs.Segments.{state_at, AllPlaced}
use Rattle.segments.specs.declared.Segments.{Segments}
use Rattle.lent_segments.specs.Lent.{segment_of}
use Rattle.lent_segments.specs.Laws.{free_in}
use Rattle.free_list.specs.FreeList.{Listed}
use Rattle.step_length.specs.declared.Side.{Side}
use Rattle.blocking.specs.Laws.{block-placed}
use Rattle.blocking.specs.declared.Board.{Board}
use Rattle.stepping.specs.Stepping.{move_along}
use Rattle.blocked_step.specs.BlockedStep.{move_and_block}

-- a variable that was free is held at an end of its segment
pub moved-placed : (n : ℕ) (segments : List Segments) (indices : List ℕ) (x_free direction lower upper : List Float) (step : Float) (k : ℕ)
    (side : Side) (released : Option ℕ) (board : Board) → length board.state ≡ Sizes.variables → Listed indices segments board.state →
    k < length indices → index indices k < n → AllPlaced n segments board.state →
    AllPlaced n segments (move_and_block segments indices x_free direction lower upper step k side released board).state
unfolding move_and_block
moved-placed n segments indices x_free direction lower upper step k side released board long listed h below placed =
    let i = index indices k in
    block-placed n segments i side step released (segment_of (state_at board.state i))
    (record { x = move_along indices x_free direction step lower upper board.x; state = board.state; refused = board.refused })
    below (omega (arith, listed.below k h, long)) (free_in _ (listed.inside k h).free) placed
