use Rattle.folds.specs.Kit.{sym, ◌≤◌, ◌+◌, arith, rules}
use lib.Seq.{length-take-le}
use Rattle.block_solve.specs.Laws.{solves}
use Rattle.block_solve.proofs.engine.Goals as goal
use Rattle.block_solve.proofs.engine.Goals.{Start}

few : (c : Start) → c.args.block.anchors + c.args.block.spans ≤ 24
few c = omega (arith, c.requires.sound.anchors, c.requires.sound.spans)

pub overflow_add-w : goal.overflow_add-w
overflow_add-w c = omega (arith, few (goal.at.overflow_add-w c).Start)

pub slice_bounds-x-end : goal.slice_bounds-x-end
slice_bounds-x-end c = c.requires.sound.words

pub slice_bounds-solve_turnover_capped-end : goal.slice_bounds-solve_turnover_capped-end
slice_bounds-solve_turnover_capped-end c = sym (length-take-le _ _ c.requires.sound.words)

pub slice_bounds-multipliers-end : goal.slice_bounds-multipliers-end
slice_bounds-multipliers-end c = few (goal.at.slice_bounds-multipliers-end c).Start

pub slice_bounds-solve_turnover_capped-end-2 : goal.slice_bounds-solve_turnover_capped-end-2
slice_bounds-solve_turnover_capped-end-2 c = sym (length-take-le _ _ (few (goal.at.slice_bounds-solve_turnover_capped-end-2 c).Start))

pub returns : goal.returns
returns c =
    let p = c.requires in
    solves p.sound p.start_value c.cap.ensures _ _ (length-take-le _ _ p.sound.words)
    (length-take-le _ _ (few (goal.at.returns c).Start)) c.solve_turnover_capped-number.ensures
