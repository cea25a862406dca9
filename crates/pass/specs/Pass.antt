-- qp.rs, a pass of `solve_piecewise_in_units`: the body of its loop.
use Rattle.std.specs.Prelude.{ℕ, Bool, List, eqb, length, take, drop, Float}
use Rattle.folds.specs.Fold.{pick}
use Rattle.folds.specs.Position.{partition_point}
use Rattle.folds.specs.Run.{Pass}
use Rattle.factoring.specs.Kept.{Kept}
use Rattle.segments.specs.declared.Segments.{Segments}
use Rattle.free_list.specs.FreeList.{free_indices, slopes}
use Rattle.iterate.specs.Problem.{Problem, problem}
use Rattle.iterate.specs.Iterate.{Result}
use Rattle.iterate.specs.declared.Iterate.{Iterate}
use Rattle.free_problem.specs.FreeProblem.{gather}
use Rattle.free_solve.specs.FreeSolve.{solve_free}
use Rattle.free_step.specs.FreeStep.{step}
use Rattle.freeing.specs.Freeing.{without_free}
use Rattle.pass.specs.State.{State, state, beside}

-- from `let slope = ..` on: the problem in the free variables, `let solution = match factored { .. }`, and the step that it gives
unfoldable pub free_pass : Problem → (segments : List Segments) (fixed : List Bool) (q_amax linear : Float) (solved slacks : List ℕ) → Iterate →
    Kept → (l : List Float) → Pass State Result
free_pass (problem originals n m q c e b) segments fixed q_amax linear solved slacks i f l =
    let slope = slopes (length solved) (free_indices n i.board.state) segments i.board.state in
    let g = gather (problem originals n m q c e b) (take n i.board.x) solved slacks slope in
    let s = solve_free q n solved g f l in
    beside s.factoring s.factor (step originals n m q c e segments fixed q_amax linear solved slacks g i s.answer)

-- `let (solved, slacks) = split_slacks(&indices, originals); if solved.is_empty() { .. }`
unfoldable pub pass : Problem → (segments : List Segments) (fixed : List Bool) (q_amax linear : Float) → State → Pass State Result
pass (problem originals n m q c e b) segments fixed q_amax linear (state i f l) =
    let indices = free_indices n i.board.state in
    let split = partition_point originals indices in
    pick (eqb split 0) (beside f l (without_free originals n m segments fixed i))
    (free_pass (problem originals n m q c e b) segments fixed q_amax linear (take split indices) (drop split indices) i f l)
