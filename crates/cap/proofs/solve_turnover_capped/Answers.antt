use Rattle.folds.specs.Kit.{sym, ◌∙◌, arith, rules}
use Rattle.quadratic.specs.Laws.{shape}
use Rattle.turnover.specs.Laws.{kink_above}
use Rattle.multiplier.specs.Ready.{ready}
use Rattle.outputs.specs.Capped.{refused-wrong_shape, refused-blank_bound}
use Rattle.cap.specs.Laws.{wrong_shape_lem, blank-bound, engine-answers}
use Rattle.cap.proofs.solve_turnover_capped.Goals as goal

pub blank-requires : goal.blank-requires
blank-requires c =
    let s = (shape _ _ _ _ _ _ _ _ _ _ _ _ _ _ _ _ _ (sym c.shaped.ensures ∙ c.if-shaped.true)).holds in
    (s.lower_holds, s.upper_holds, s.row_lower_holds, s.row_upper_holds)

pub kink_multiplier-first-requires : goal.kink_multiplier-first-requires
kink_multiplier-first-requires c =
    let s = shape _ _ _ _ _ _ _ _ _ _ _ _ _ _ _ _ _ (sym c.shaped.ensures ∙ c.if-shaped.true) in
    (omega (arith, s.holds.originals), s.q_holds, s.holds.c_holds, s.holds.at_holds)

pub search_multiplier-solved-requires : goal.search_multiplier-solved-requires
search_multiplier-solved-requires c =
    let s = shape _ _ _ _ _ _ _ _ _ _ _ _ _ _ _ _ _ (sym c.shaped.ensures ∙ c.if-shaped.true) in
    (ready s, rw c.kink_multiplier-first.ensures (kink_above _ _ _ _), s.start_long)

pub overflow_add-m : goal.overflow_add-m
overflow_add-m c =
    let s = (shape _ _ _ _ _ _ _ _ _ _ _ _ _ _ _ _ _ (sym c.shaped.ensures ∙ c.if-shaped.true)).holds in
    omega (arith, s.equalities, s.rows)

pub write_capped-requires : goal.write_capped-requires
write_capped-requires c =
    let s = shape _ _ _ _ _ _ _ _ _ _ _ _ _ _ _ _ _ (sym c.shaped.ensures ∙ c.if-shaped.true) in
    (s.holds.originals, omega (arith, s.holds.equalities, s.holds.rows), s.x_long, s.multipliers_long)

pub returns-then-blank : goal.returns-then-blank
returns-then-blank c =
    rw (blank-bound _ _ _ _ _ _ _ _ _ _ _ _ _ _ _ _ _ _ (sym c.shaped.ensures ∙ c.if-shaped.true)
    (sym c.blank.ensures ∙ c.if-blank.true))
    (refused-blank_bound _ _ _ _)

pub returns-then-shaped : goal.returns-then-shaped
returns-then-shaped c =
    rw (engine-answers _ _ _ _ _ _ _ _ _ _ _ _ _ _ _ _ _ _ (sym c.shaped.ensures ∙ c.if-shaped.true)
    (sym c.blank.ensures ∙ c.if-blank.false) c.kink_multiplier-first.ensures
    c.search_multiplier-solved.ensures)
    c.write_capped.ensures

pub returns : goal.returns
returns c =
    rw (wrong_shape_lem _ _ _ _ _ _ _ _ _ _ _ _ _ _ _ _ _ _ (sym c.shaped.ensures ∙ c.if-shaped.false)) (refused-wrong_shape _ _ _ _)
