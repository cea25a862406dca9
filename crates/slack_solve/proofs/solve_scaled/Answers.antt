use Rattle.std.specs.Prelude.{Float}
use Rattle.std.proofs.Common.{length-take}
use Rattle.folds.specs.Kit.{sym, arith, rules}
use lib.Seq.{length-take-le}
use Rattle.folds.specs.Tab.{taken-over}
use Rattle.sizes.specs.Sizes as Sizes
use Rattle.vector.specs.Laws.{length-div}
use Rattle.slacks.specs.Laws.{with_zeros-taken}
use Rattle.slack_solve.specs.Laws.{scaled-from}
use Rattle.slack_solve.proofs.solve_scaled.Goals as goal

pub copy-requires : goal.copy-requires
copy-requires c = let p = c.requires.0 in (p.c_holds, omega (arith, p.originals))

pub copy-requires-2 : goal.copy-requires-2
copy-requires-2 c = let p = c.requires.0 in (p.b_holds, omega (arith, p.equalities))

pub slice_bounds-div-end : goal.slice_bounds-div-end
slice_bounds-div-end c = let p = c.requires.0 in sym (length-take-le _ _ (omega (arith, p.originals, p.rows)))

pub slice_bounds-div-end-3 : goal.slice_bounds-div-end-3
slice_bounds-div-end-3 c = let p = c.requires.0 in sym (length-take-le _ _ (omega (arith, p.equalities, p.rows)))

pub slice_bounds-engine_sized-end : goal.slice_bounds-engine_sized-end
slice_bounds-engine_sized-end c = let p = c.requires.0 in sym (length-take-le _ _ (omega (arith, p.originals, p.rows)))

pub slice_bounds-engine_sized-end-2 : goal.slice_bounds-engine_sized-end-2
slice_bounds-engine_sized-end-2 c = let p = c.requires.0 in sym (length-take-le _ _ (omega (arith, p.equalities, p.rows)))

pub slice_bounds-engine_sized-end-3 : goal.slice_bounds-engine_sized-end-3
slice_bounds-engine_sized-end-3 c = let p = c.requires.0 in sym (length-take-le _ _ (omega (arith, p.originals, p.rows)))

pub overflow_add-v : goal.overflow_add-v
overflow_add-v c = let p = c.requires.0 in omega (arith, p.originals, p.rows)

pub overflow_add-w : goal.overflow_add-w
overflow_add-w c = let p = c.requires.0 in omega (arith, p.equalities, p.rows)

pub slice_bounds-c_all-end : goal.slice_bounds-c_all-end
slice_bounds-c_all-end c = let p = c.requires.0 in omega (arith, p.originals, p.rows)

pub slice_bounds-b_all-end : goal.slice_bounds-b_all-end
slice_bounds-b_all-end c = let p = c.requires.0 in omega (arith, p.equalities, p.rows)

pub slice_bounds-uc-end : goal.slice_bounds-uc-end
slice_bounds-uc-end c = let p = c.requires.0 in omega (arith, p.originals, p.rows)

pub slice_bounds-ub-end : goal.slice_bounds-ub-end
slice_bounds-ub-end c = let p = c.requires.0 in omega (arith, p.equalities, p.rows)

pub slice_bounds-first-end : goal.slice_bounds-first-end
slice_bounds-first-end c = let p = c.requires.0 in omega (arith, p.originals, p.rows)

pub div-requires : goal.div-requires
div-requires c =
    let p = c.requires in
    (omega (arith, length-take {A = Float}, p.0.originals, p.0.rows), p.3, omega (arith, p.0.originals, p.0.rows))

pub div-requires-2 : goal.div-requires-2
div-requires-2 c =
    let p = c.requires in
    (omega (arith, length-take {A = Float}, p.0.equalities, p.0.rows), p.4, omega (arith, p.0.equalities, p.0.rows))

pub all_segments-segments-requires : goal.all_segments-segments-requires
all_segments-segments-requires c =
    let p = c.requires in
    record {
      originals = p.0.originals;
      rows = p.0.rows;
      lowers = p.0.lower_holds;
      uppers = p.0.upper_holds;
      kinks = p.0.at_holds;
      kink_slopes = p.0.slopes_hold;
      row_lowers = p.0.row_lower_holds;
      row_uppers = p.0.row_upper_holds;
      scaled = p.3;
    }

pub slacks_start-first-requires : goal.slacks_start-first-requires
slacks_start-first-requires c =
    let p = c.requires in
    (p.0.originals, p.0.rows, p.0.start_holds, p.0.a_holds, p.3)

pub engine_sized-requires : goal.engine_sized-requires
engine_sized-requires c =
    let p = c.requires in (
      record {
        few = p.0.originals;
        within = omega arith;
        variables = omega (arith, p.0.originals, p.0.rows);
        columns = omega (arith, p.0.equalities, p.0.rows);
        slacks = omega arith;
        q_holds = p.1;
        c_holds = omega (arith, length-take {A = Float}, p.0.originals, p.0.rows);
        e_holds = p.2;
        b_holds = omega (arith, length-take {A = Float}, p.0.equalities, p.0.rows);
      },
      c.all_segments-segments.ensures.all_cut,
      omega (arith, length-take {A = Float}, p.0.originals, p.0.rows),
      p.0.equalities,
      p.0.rows,
    )

pub returns : goal.returns
returns c =
    let p = c.requires.0 in
    scaled-from _ _ _ _ _ _ _ _ _ _ _ _ _ _ _ _ _
    (with_zeros-taken _ _ _ Sizes.variables (omega (arith, p.originals, p.rows)) c.copy.ensures)
    (with_zeros-taken _ _ _ Sizes.columns (omega (arith, p.equalities, p.rows)) c.copy-2.ensures)
    (taken-over _ _ (length-div _ _ _) c.div.ensures)
    (taken-over _ _ (length-div _ _ _) c.div-2.ensures)
    c.all_segments-segments.ensures.value
    c.slacks_start-first.ensures
    c.engine_sized.ensures
