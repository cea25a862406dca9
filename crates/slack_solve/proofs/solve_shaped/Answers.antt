use Rattle.folds.specs.Kit.{◌+◌, ◌≤◌, arith, rules}
use Rattle.folds.specs.Cell.{area}
use Rattle.sizes.specs.Sizes as Sizes
use Rattle.sizes.specs.Sizes.{few}
use Rattle.slack_solve.proofs.solve_shaped.Goals as goal

pub solve_within-requires : goal.solve_within-requires
solve_within-requires c =
    let a = c.args in
    let p = c.requires in
    let v : a.n + a.r ≤ few + few = omega arith in
    let w : a.m + a.r ≤ few + few = omega (arith, p.0.equalities) in
    let square = area v v in
    let tall = area v w in
    (p.0, p.1, p.2, omega arith, omega arith, omega arith, omega arith)

pub solve_within-requires-2 : goal.solve_within-requires-2
solve_within-requires-2 c =
    let a = c.args in
    let p = c.requires in
    let v : a.n + a.r ≤ Sizes.variables = omega (arith, p.0.originals, p.0.rows) in
    let w : a.m + a.r ≤ Sizes.columns = omega (arith, p.0.equalities, p.0.rows) in
    let square = area v v in
    let tall = area v w in
    (p.0, p.1, p.2, omega arith, omega arith, omega arith, omega arith)
