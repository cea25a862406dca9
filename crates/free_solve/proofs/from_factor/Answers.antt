use Rattle.folds.specs.Kit.{pick}
use Rattle.factoring.specs.Laws.{some_listed, none_listed}
use Rattle.range_space.specs.Laws.{found-is}
use Rattle.free_solve.specs.FreeSolve.{from_factor}
use Rattle.free_solve.proofs.from_factor.Goals as goal

pub solve_factored-requires : goal.solve_factored-requires
solve_factored-requires c =
    let p = c.requires in
    (p.0.holds, p.0.diagonal c.if-factored.true, p.1, p.2, p.3, p.4)

pub returns-then-factored : goal.returns-then-factored
unfolding from_factor
returns-then-factored c held = rw (some_listed held c.if-factored.true) c.solve_factored.ensures

pub returns-else-factored : goal.returns-else-factored
unfolding from_factor pick
returns-else-factored c held = rw (none_listed held c.if-factored.false, c.if-factored.false) (found-is _ _ _)
