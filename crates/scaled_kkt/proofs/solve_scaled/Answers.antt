use Rattle.folds.specs.Kit.{◌*◌, ◌-◌, ◌∙◌}
use lib.ListN.{take}
use Rattle.constraints.specs.Laws.{new-parts}
use Rattle.scaled_kkt.specs.ScaledKkt.{solve_scaled}
use Rattle.scaled_kkt.specs.Laws.{over-least, over-unknown}
use Rattle.scaled_kkt.proofs.solve_scaled.Goals as goal

pub returns-in_default : goal.returns-in_default
unfolding solve_scaled
returns-in_default c =
    let s = c.args.system.now in
    let p = c.new-pivots in
    let rank = p.result.rank in
    over-unknown s.n s.m s.k.now s.c.now s.e.now s.b.now c.args.noise rank (take (s.n * rank) p.new.range) (take (s.n * (s.n - rank)) p.new.null)
    (take (c.min.result * s.m) p.new.coefficients) (take rank p.result.column) c.smallest_feasible-x0.ensures c.in_default.ensures
    ∙ rw (c.min.ensures, new-parts _ _ _ _ _ _ _ p.ensures.result_after)

pub returns : goal.returns
unfolding solve_scaled
returns c =
    let s = c.args.system.now in
    let p = c.new-pivots in
    let rank = p.result.rank in
    over-least s.n s.m s.k.now s.c.now s.e.now s.b.now c.args.noise rank (take (s.n * rank) p.new.range) (take (s.n * (s.n - rank)) p.new.null)
    (take (c.min.result * s.m) p.new.coefficients) (take rank p.result.column) _ c.smallest_feasible-x0.ensures c.in-Some.ensures
    c.gradient-g.ensures c.multipliers-multipliers.ensures c.judged.ensures
    ∙ rw (c.min.ensures, new-parts _ _ _ _ _ _ _ p.ensures.result_after)
