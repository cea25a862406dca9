use Rattle.folds.specs.Kit.{arith}
use Rattle.range_space.specs.Laws.{found-is}
use Rattle.probe.specs.Hooks.{answered}
use Rattle.probe.proofs.solved.Goals as goal

pub solve_factored-found-requires : goal.solve_factored-found-requires
solve_factored-found-requires c =
    let p = c.requires in
    let h = p.0 in
    (omega (arith, h.factor), p.2, omega (arith, h.whitened), omega (arith, h.gram), omega (arith, h.few), h.columns)

pub given-requires : goal.given-requires
unfolding answered
given-requires c =
    let p = c.requires in
    (p.0.few, p.0.columns, p.1.point, p.1.prices)

pub returns : goal.returns
unfolding answered
returns c = rw (← c.solve_factored-found.ensures, found-is _ _ _) c.given.ensures
