use Rattle.std.proofs.Common.{length-take, length-take-le, get_or-take}
use Rattle.folds.specs.Kit.{◌≡◌, ◌<◌, arith, kit, length, rules, fold_call, fold_end}
use Rattle.sizes.specs.Sizes as Sizes
use Rattle.segments.specs.declared.Segments.{Segments}
use Rattle.starting.specs.Starting.{slope_amax}
use Rattle.starting.proofs.slope_amax.Goals as goal
use Rattle.starting.proofs.slope_amax.Goals.{In-loop-s}

below : (c : In-loop-s) → c.loop-s.s-index < c.args.n
below c = omega (arith, length-take {A = Segments})

pub slopes_amax-m-requires : goal.slopes_amax-m-requires
slopes_amax-m-requires c =
    let h = below (goal.at.slopes_amax-m-requires c).In-loop-s in rw (get_or-take _ _ _ _ h) (c.requires.1 _ h)

pub loop-s-preserved : goal.loop-s-preserved
loop-s-preserved c =
    fold_call _ _ _ c.loop-s.invariant (rw (c.slopes_amax-m.ensures, get_or-take _ _ _ _ (below (goal.at.loop-s-preserved c).In-loop-s)))

pub loop-s-init : goal.loop-s-init
loop-s-init c = search kit

pub returns : goal.returns
unfolding slope_amax
returns c =
    let room : length c.args.segments ≡ Sizes.variables = search rules in
    let n = length-take-le c.args.n c.args.segments (omega (arith, c.requires.0)) in
    fold_end _ _ _ _ (omega arith) (omega arith) c.loop-s.invariant
