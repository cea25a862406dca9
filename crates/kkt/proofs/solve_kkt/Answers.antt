use Rattle.folds.specs.Kit.{sym, ◌∙◌, arith, pick}
use Rattle.outputs.specs.Kkt.{refused-wrong_shape}
use Rattle.kkt.specs.Kkt.{solve_kkt}
use Rattle.kkt.specs.Laws.{Shape, shape, sized}
use Rattle.kkt.proofs.solve_kkt.Goals as goal

pub returns-then-not-shaped : goal.returns-then-not-shaped
unfolding solve_kkt pick
returns-then-not-shaped c = rw (← c.shaped.ensures, c.if-not-shaped.true) (refused-wrong_shape _ _)

pub invariant_of-system : goal.invariant_of-system
invariant_of-system c =
    record { sized = sized _ _ _ _ _ _ _ _ (shape _ _ _ _ _ _ _ _ (sym c.shaped.ensures ∙ c.if-not-shaped.false)) }

pub solve_shaped-requires : goal.solve_shaped-requires
solve_shaped-requires c = (shape _ _ _ _ _ _ _ _ (sym c.shaped.ensures ∙ c.if-not-shaped.false)).columns

pub write_solution-requires : goal.write_solution-requires
write_solution-requires c =
    let s = shape _ _ _ _ _ _ _ _ (sym c.shaped.ensures ∙ c.if-not-shaped.false) in
    (s.few, omega (arith, s.columns), s.x_long, s.multipliers_long)

pub returns : goal.returns
unfolding solve_kkt pick
returns c = rw (← c.shaped.ensures, c.if-not-shaped.false, ← c.solve_shaped.ensures) c.write_solution.ensures
