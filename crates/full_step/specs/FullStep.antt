-- qp.rs, the step of a pass of `solve_piecewise_in_units`: toward the minimum on the free variables, or along a direction of zero curvature, until
-- a variable reaches an end of its segment.
use Rattle.std.specs.Prelude.{ℕ, ◌+◌, ◌-◌, ◌≤◌, ◌≡◌, Bool, List, length, take, Float, Option, Some, None}
use Rattle.folds.specs.Run.{Pass, done}
use Rattle.sizes.specs.Sizes as Sizes
use Rattle.vector.specs.Vector.{add, sub, select}
use Rattle.segments.specs.declared.Segments.{Segments}
use Rattle.segments.specs.declared.State.{State}
use Rattle.free_list.specs.FreeList.{free_indices, lower_ends, upper_ends}
use Rattle.step_length.specs.StepLength.{ratio_test, step_tolerance, first_passed}
use Rattle.step_length.specs.declared.Side.{Side}
use Rattle.slack_rows.specs.SlackRows.{Rows, Solved}
use Rattle.iterate.specs.Problem.{first_slack_column}
use Rattle.iterate.specs.declared.SolveError.TheVariants.{Unbounded}
use Rattle.iterate.specs.Iterate.{Result, refused}
use Rattle.iterate.specs.declared.Iterate.{Iterate}
use Rattle.blocked_step.specs.BlockedStep.{move_and_block, blocked_pass}
use Rattle.release_at.specs.ReleaseAt.{release}
use Rattle.advance.specs.Advance.{settled, decided}

-- the free variables, split into those solved for and the slacks, each with its row among E's columns
pub record Split (originals n m : ℕ) (e : List Float) (state : List State) (indices solved slacks : List ℕ) : Type 0 where
  pub within : originals ≤ n
  pub slacks_fit : n - originals ≤ m
  pub columns : m ≤ Sizes.columns
  pub free : indices ≡ free_indices n state
  pub counted : length solved + length slacks ≡ length indices
  pub solved_are : Solved n m e solved
  pub slacks_are : Rows n m originals (first_slack_column originals n m) slacks

-- ---- toward the target
-- `if let Some((step, k, side)) = blocking { .. continue; }`, with the step along `target - x_free`; else the whole step, and the release
unfoldable pub at_blocking : (originals n m : ℕ) (q c e : List Float) (segments : List Segments) (fixed : List Bool) (q_amax linear : Float)
    (indices : List ℕ) (x_free target lower upper : List Float) (tolerance : Float) (multipliers : List Float) → Iterate → Option (Float × ℕ × Side) → Pass Iterate Result
at_blocking originals n m q c e segments fixed q_amax linear indices x_free target lower upper tolerance multipliers i (Some hit) =
    blocked_pass i (move_and_block segments indices x_free (sub (length indices) target x_free) lower upper hit.0 hit.1 hit.2 i.released i.board)
at_blocking originals n m q c e segments fixed q_amax linear indices x_free target lower upper tolerance multipliers i None =
    let board = settled indices target lower upper tolerance i.board in
    decided n i board multipliers (release originals n m q c e segments fixed q_amax linear multipliers board)

-- `let blocking = (0..indices.len()).filter_map(..).min_by(..)`
unfoldable pub stepped : (originals n m : ℕ) (q c e : List Float) (segments : List Segments) (fixed : List Bool) (q_amax linear : Float)
    (indices : List ℕ) (tolerance : Float) (x_free target lower upper multipliers : List Float) → Iterate → Pass Iterate Result
stepped originals n m q c e segments fixed q_amax linear indices tolerance x_free target lower upper multipliers i =
    at_blocking originals n m q c e segments fixed q_amax linear indices x_free target lower upper tolerance multipliers i
    (first_passed (length indices) x_free target lower upper tolerance)

-- `let target = &x_free + delta; let tolerance = ..`
unfoldable pub toward : (originals n m : ℕ) (q c e : List Float) (segments : List Segments) (fixed : List Bool) (q_amax linear : Float) (solved : ℕ)
    (step multipliers : List Float) → Iterate → Pass Iterate Result
toward originals n m q c e segments fixed q_amax linear solved step multipliers i =
    let indices = free_indices n i.board.state in
    let k = length indices in
    let x_free = select k (take n i.board.x) indices in
    let target = add k x_free step in
    let tolerance = step_tolerance solved target originals (take n i.board.x) in
    stepped originals n m q c e segments fixed q_amax linear indices tolerance x_free target (lower_ends k indices segments i.board.state)
    (upper_ends k indices segments i.board.state) multipliers i

-- ---- along a direction
-- `ratio_test(&x_free, &direction, &lower, &upper).ok_or(CutupError::Unbounded)?`
unfoldable pub at_ratio : (segments : List Segments) (indices : List ℕ) (x_free direction lower upper : List Float) → Iterate → Option (Float × ℕ × Side) →
    Pass Iterate Result
at_ratio segments indices x_free direction lower upper i (Some hit) =
    blocked_pass i (move_and_block segments indices x_free direction lower upper hit.0 hit.1 hit.2 i.released i.board)
at_ratio segments indices x_free direction lower upper i None = done (refused Unbounded)

unfoldable pub ray_step : (segments : List Segments) (indices : List ℕ) (x_free direction lower upper : List Float) → Iterate →
    Pass Iterate Result
ray_step segments indices x_free direction lower upper i =
    at_ratio segments indices x_free direction lower upper i (ratio_test (length indices) x_free direction lower upper)

unfoldable pub along : (n : ℕ) (segments : List Segments) (direction : List Float) → Iterate → Pass Iterate Result
along n segments direction i =
    let indices = free_indices n i.board.state in
    let k = length indices in
    let x_free = select k (take n i.board.x) indices in
    ray_step segments indices x_free direction (lower_ends k indices segments i.board.state) (upper_ends k indices segments i.board.state) i
