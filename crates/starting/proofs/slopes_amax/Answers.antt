use Rattle.std.specs.Prelude.{Float}
use Rattle.std.specs.Float.{nan}
use Rattle.std.proofs.Common.{length-take, length-take-le, get_or-take}
use Rattle.folds.specs.Kit.{◌≡◌, ◌<◌, ◌∙◌, arith, length, kit, fold_call, fold_end, rules}
use Rattle.starting.specs.Starting.{slopes_amax}
use Rattle.starting.proofs.slopes_amax.Goals as goal

pub loop-slope-preserved : goal.loop-slope-preserved
loop-slope-preserved c =
    let h : c.loop-slope.slope-index < c.last.result = omega (arith, length-take {A = Float}) in
    fold_call _ _ _ c.loop-slope.invariant (rw (c.max-m.ensures, c.abs.ensures, get_or-take c.last.result c.args.s.slopes c.loop-slope.slope-index nan h))

pub returns : goal.returns
unfolding slopes_amax
returns c =
    let room : length c.args.s.slopes ≡ 2 = search rules in
    let n = length-take-le c.last.result c.args.s.slopes (omega (arith, c.last.ensures, c.requires.three)) in
    fold_end c.loop-slope.slope-index c.last.result _ _ (omega arith) (omega arith) c.loop-slope.invariant ∙ rw c.last.ensures

pub loop-slope-init : goal.loop-slope-init
loop-slope-init c = search kit
