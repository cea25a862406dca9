use Rattle.folds.specs.Kit.{ap, arith, rules, walk_call, walk_stop, walks}
use Rattle.folds.specs.Fold.{walk_end}
use Rattle.factor_update.specs.Held.{joins, factor_of}
use Rattle.factor_update.proofs.joins.Goals as goal

ruleset kit = (walks, rules)

pub join_one-requires : goal.join_one-requires
join_one-requires c =
    let p = c.requires in
    (p.0, record { few = p.1.few; l_holds = omega (arith, p.1.l_holds); room_holds = omega (arith, p.1.room_holds) }, omega arith)

pub returns-in-None : goal.returns-in-None
unfolding joins factor_of
returns-in-None c = ap factor_of (walk_stop _ _ _ _ c.loop-i-test.true c.loop-i.invariant.3 c.in-None.ensures.1)

pub loop-i-preserved : goal.loop-i-preserved
unfolding joins factor_of
loop-i-preserved c = (omega arith, omega arith, omega arith, walk_call _ _ _ c.loop-i.invariant.3 c.in-Some.ensures)

pub returns : goal.returns
unfolding joins factor_of
returns c = let inv = c.loop-i.invariant in ap factor_of (walk_end _ _ _ _ inv.0 c.loop-i-test.false inv.3)

pub loop-i-init : goal.loop-i-init
unfolding joins factor_of
loop-i-init c = search kit
