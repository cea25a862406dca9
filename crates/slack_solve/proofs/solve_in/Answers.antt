use Rattle.folds.specs.Kit.{sym, arith, rules}
use lib.Seq.{length-take-le}
use Rattle.folds.specs.Cell.{small-fits}
use Rattle.folds.specs.Tab.{taken-over}
use Rattle.slacks.specs.Laws.{length-with_slacks_q, length-with_slacks_e}
use Rattle.slack_solve.specs.Laws.{solve-from}
use Rattle.slack_solve.proofs.solve_in.Goals as goal

pub with_slacks_q-requires : goal.with_slacks_q-requires
with_slacks_q-requires c = let p = c.requires in (p.0.originals, p.0.rows, p.1, p.3)

pub with_slacks_e-requires : goal.with_slacks_e-requires
with_slacks_e-requires c = let p = c.requires in (p.0.originals, p.0.equalities, p.0.rows, p.2, p.0.a_holds, p.4)

pub slice_bounds-solve_with_slacks-end : goal.slice_bounds-solve_with_slacks-end
slice_bounds-solve_with_slacks-end c = omega (arith, c.requires.3)

pub slice_bounds-solve_with_slacks-end-2 : goal.slice_bounds-solve_with_slacks-end-2
slice_bounds-solve_with_slacks-end-2 c = sym (length-take-le _ _ (omega (arith, c.requires.3)))

pub slice_bounds-solve_with_slacks-end-3 : goal.slice_bounds-solve_with_slacks-end-3
slice_bounds-solve_with_slacks-end-3 c = omega (arith, c.requires.4)

pub slice_bounds-solve_with_slacks-end-4 : goal.slice_bounds-solve_with_slacks-end-4
slice_bounds-solve_with_slacks-end-4 c = sym (length-take-le _ _ (omega (arith, c.requires.4)))

pub solve_with_slacks-requires : goal.solve_with_slacks-requires
solve_with_slacks-requires c =
    let p = c.requires in
    (p.0, p.2, length-take-le _ _ (omega (arith, p.3)), length-take-le _ _ (omega (arith, p.4)))

pub returns : goal.returns
returns c =
    solve-from _ _ _ _ _ _ _ _ _ _ _ _ _ _ _ (taken-over _ _ (length-with_slacks_q _ _ _) c.with_slacks_q.ensures)
    (taken-over _ _ (length-with_slacks_e _ _ _ _ _) c.with_slacks_e.ensures)
    c.solve_with_slacks.ensures

pub overflow_add-v : goal.overflow_add-v
overflow_add-v c = let p = c.requires.0 in omega (arith, p.originals, p.rows)

pub overflow_mul-square : goal.overflow_mul-square
overflow_mul-square c = let p = c.requires.0 in small-fits (omega (arith, p.originals, p.rows)) (omega (arith, p.originals, p.rows))

pub overflow_add-entries : goal.overflow_add-entries
overflow_add-entries c = let p = c.requires.0 in omega (arith, p.equalities, p.rows)

pub overflow_mul-entries : goal.overflow_mul-entries
overflow_mul-entries c = let p = c.requires.0 in small-fits (omega (arith, p.originals, p.rows)) (omega (arith, p.equalities, p.rows))
