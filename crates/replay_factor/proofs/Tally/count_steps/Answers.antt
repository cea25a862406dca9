use Rattle.std.proofs.Common.{refl, mul-le-mul, arith, ◌∙◌}
use Rattle.factoring.specs.Laws.{good-new}
use Rattle.replay_factor.proofs.Tally.count_steps.Goals as goal

pub loop-init : goal.loop-init
loop-init c = record { room = refl; good = good-new _ _ _ c.new-kept.ensures }

pub count_step-kept-requires : goal.count_step-kept-requires
count_step-kept-requires c =
    let few = c.args.matrix.now.block.0.few in
    (c.loop.invariant.good, omega (arith, mul-le-mul few few, c.loop.invariant.room))
