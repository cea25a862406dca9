use Rattle.folds.specs.Kit.{sym, ◌∙◌, arith, rules}
use Rattle.quadratic.specs.Laws.{shape}
use Rattle.outputs.specs.Piecewise.{refused-wrong_shape, refused-blank_bound}
use Rattle.piecewise.specs.Laws.{wrong_shape_lem, blank-bound, engine-answers}
use Rattle.piecewise.proofs.solve_piecewise.Goals as goal

pub blank-requires : goal.blank-requires
blank-requires c =
    let s = (shape _ _ _ _ _ _ _ _ _ _ _ _ _ _ _ _ _ (sym c.shaped.ensures ∙ c.if-shaped.true)).holds in
    (s.lower_holds, s.upper_holds, s.row_lower_holds, s.row_upper_holds)

pub solve_shaped-solved-requires : goal.solve_shaped-solved-requires
solve_shaped-solved-requires c =
    let s = shape _ _ _ _ _ _ _ _ _ _ _ _ _ _ _ _ _ (sym c.shaped.ensures ∙ c.if-shaped.true) in (s.holds, s.q_holds, s.e_holds)

pub overflow_add-m : goal.overflow_add-m
overflow_add-m c =
    let s = (shape _ _ _ _ _ _ _ _ _ _ _ _ _ _ _ _ _ (sym c.shaped.ensures ∙ c.if-shaped.true)).holds in
    omega (arith, s.equalities, s.rows)

pub write_minimum-requires : goal.write_minimum-requires
write_minimum-requires c =
    let s = shape _ _ _ _ _ _ _ _ _ _ _ _ _ _ _ _ _ (sym c.shaped.ensures ∙ c.if-shaped.true) in
    (s.holds.originals, omega (arith, s.holds.equalities, s.holds.rows), s.x_long, s.multipliers_long)

pub returns-then-blank : goal.returns-then-blank
returns-then-blank c =
    rw (blank-bound _ _ _ _ _ _ _ _ _ _ _ _ _ _ _ _ _ (sym c.shaped.ensures ∙ c.if-shaped.true)
    (sym c.blank.ensures ∙ c.if-blank.true))
    (refused-blank_bound _ _ _)

pub returns-then-shaped : goal.returns-then-shaped
returns-then-shaped c =
    rw (engine-answers _ _ _ _ _ _ _ _ _ _ _ _ _ _ _ _ _ (sym c.shaped.ensures ∙ c.if-shaped.true)
    (sym c.blank.ensures ∙ c.if-blank.false)
    c.solve_shaped-solved.ensures)
    c.write_minimum.ensures

pub returns : goal.returns
returns c = rw (wrong_shape_lem _ _ _ _ _ _ _ _ _ _ _ _ _ _ _ _ _ (sym c.shaped.ensures ∙ c.if-shaped.false)) (refused-wrong_shape _ _ _)
