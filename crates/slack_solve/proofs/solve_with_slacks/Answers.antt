use Rattle.std.specs.Prelude.{Float}
use Rattle.std.proofs.Common.{length-take}
use Rattle.folds.specs.Kit.{◌+◌, ◌≤◌, sym, ◌∙◌, arith, length}
use lib.Seq.{length-take-le}
use Rattle.folds.specs.Tab.{over-whole}
use Rattle.units.specs.Laws.{length-units_k, length-units_e}
use Rattle.slack_solve.specs.Laws.{with_slacks-from}
use Rattle.slack_solve.proofs.solve_with_slacks.Goals as goal
use Rattle.slack_solve.proofs.solve_with_slacks.Goals.{After-column_scales-columns}

-- the scales' and the columns' arrays hold what is counted of them
scales-hold : (c : After-column_scales-columns) → c.args.n + c.args.r ≤ length c.scales_with_slacks-scales.result
scales-hold c = omega (arith, c.requires.0.originals, c.requires.0.rows)

columns-hold : (c : After-column_scales-columns) → c.args.m + c.args.r ≤ length c.column_scales-columns.result
columns-hold c = omega (arith, c.requires.0.equalities, c.requires.0.rows)

pub slice_bounds-units_k-end : goal.slice_bounds-units_k-end
slice_bounds-units_k-end c = sym (length-take-le _ _ (scales-hold (goal.at.slice_bounds-units_k-end c).After-column_scales-columns))

pub slice_bounds-units_e-end : goal.slice_bounds-units_e-end
slice_bounds-units_e-end c = sym (length-take-le _ _ (scales-hold (goal.at.slice_bounds-units_e-end c).After-column_scales-columns))

pub slice_bounds-units_e-end-2 : goal.slice_bounds-units_e-end-2
slice_bounds-units_e-end-2 c = sym (length-take-le _ _ (columns-hold (goal.at.slice_bounds-units_e-end-2 c).After-column_scales-columns))

pub slice_bounds-solve_scaled-end : goal.slice_bounds-solve_scaled-end
slice_bounds-solve_scaled-end c = sym (length-take-le _ _ (scales-hold (goal.at.slice_bounds-solve_scaled-end c).After-column_scales-columns))

pub slice_bounds-solve_scaled-end-2 : goal.slice_bounds-solve_scaled-end-2
slice_bounds-solve_scaled-end-2 c = sym (length-take-le _ _ (columns-hold (goal.at.slice_bounds-solve_scaled-end-2 c).After-column_scales-columns))

pub slice_bounds-original-end : goal.slice_bounds-original-end
slice_bounds-original-end c = sym (length-take-le _ _ (scales-hold (goal.at.slice_bounds-original-end c).After-column_scales-columns))

pub slice_bounds-original-end-2 : goal.slice_bounds-original-end-2
slice_bounds-original-end-2 c = sym (length-take-le _ _ (columns-hold (goal.at.slice_bounds-original-end-2 c).After-column_scales-columns))

pub slice_bounds-scales-end : goal.slice_bounds-scales-end
slice_bounds-scales-end c = scales-hold (goal.at.slice_bounds-scales-end c).After-column_scales-columns

pub slice_bounds-scales-end-2 : goal.slice_bounds-scales-end-2
slice_bounds-scales-end-2 c = scales-hold (goal.at.slice_bounds-scales-end-2 c).After-column_scales-columns

pub slice_bounds-columns-end : goal.slice_bounds-columns-end
slice_bounds-columns-end c = columns-hold (goal.at.slice_bounds-columns-end c).After-column_scales-columns

pub slice_bounds-scales-end-3 : goal.slice_bounds-scales-end-3
slice_bounds-scales-end-3 c = scales-hold (goal.at.slice_bounds-scales-end-3 c).After-column_scales-columns

pub slice_bounds-columns-end-2 : goal.slice_bounds-columns-end-2
slice_bounds-columns-end-2 c = columns-hold (goal.at.slice_bounds-columns-end-2 c).After-column_scales-columns

pub slice_bounds-scales-end-4 : goal.slice_bounds-scales-end-4
slice_bounds-scales-end-4 c = scales-hold (goal.at.slice_bounds-scales-end-4 c).After-column_scales-columns

pub slice_bounds-columns-end-3 : goal.slice_bounds-columns-end-3
slice_bounds-columns-end-3 c = columns-hold (goal.at.slice_bounds-columns-end-3 c).After-column_scales-columns

pub units_k-requires : goal.units_k-requires
units_k-requires c =
    let s = scales-hold (goal.at.units_k-requires c).After-column_scales-columns in
    (omega (arith, c.requires.2), omega (arith, length-take {A = Float}))

pub units_e-requires : goal.units_e-requires
units_e-requires c =
    let at = (goal.at.units_e-requires c).After-column_scales-columns in
    let s = scales-hold at in
    let k = columns-hold at in
    (omega (arith, c.requires.3), omega (arith, length-take {A = Float}), omega (arith, length-take {A = Float}))

pub solve_scaled-solved-requires : goal.solve_scaled-solved-requires
solve_scaled-solved-requires c =
    let at = (goal.at.solve_scaled-solved-requires c).After-column_scales-columns in
    let s = scales-hold at in
    let k = columns-hold at in
    let p = c.requires in (
      p.0,
      omega (arith, p.2, c.units_k.auto.k),
      omega (arith, p.3, c.units_e.auto.e),
      omega (arith, length-take {A = Float}),
      omega (arith, length-take {A = Float}),
    )

pub original-requires : goal.original-requires
original-requires c =
    let at = (goal.at.original-requires c).After-column_scales-columns in
    let s = scales-hold at in
    let k = columns-hold at in
    let p = c.requires in
    record {
      originals = p.0.originals;
      equalities = p.0.equalities;
      rows = p.0.rows;
      e_holds = p.1;
      b_holds = p.0.b_holds;
      a_holds = p.0.a_holds;
      row_lower_holds = p.0.row_lower_holds;
      row_upper_holds = p.0.row_upper_holds;
      scales_hold = omega (arith, length-take {A = Float});
      columns_hold = omega (arith, length-take {A = Float});
    }

pub returns : goal.returns
returns c =
    let p = c.requires in
    with_slacks-from _ _ _ _ _ _ _ _ _ _ _ _ _ _ _ _ c.scales_with_slacks-scales.ensures c.column_scales-columns.ensures
    (over-whole _ _ (length-units_k _ _ _) p.2 c.units_k.ensures)
    (over-whole _ _ (length-units_e _ _ _ _ _) p.3 c.units_e.ensures)
    c.solve_scaled-solved.ensures
    c.original.ensures

pub overflow_add-v : goal.overflow_add-v
overflow_add-v c = let p = c.requires.0 in omega (arith, p.originals, p.rows)

pub overflow_add-w : goal.overflow_add-w
overflow_add-w c = let p = c.requires.0 in omega (arith, p.equalities, p.rows)

pub scales_with_slacks-scales-requires : goal.scales_with_slacks-scales-requires
scales_with_slacks-scales-requires c =
    let p = c.requires in
    (p.0.originals, p.0.rows, omega (arith, p.2), p.0.a_holds)

pub column_scales-columns-requires : goal.column_scales-columns-requires
column_scales-columns-requires c =
    let p = c.requires in
    (omega (arith, p.0.equalities, p.0.rows), omega (arith, p.3))
