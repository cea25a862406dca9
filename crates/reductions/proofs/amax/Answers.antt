use Rattle.folds.specs.Kit.{◌≡◌, false, sym, ◌∙◌}
use Rattle.folds.specs.Fold.{fold-none, fold_call, fold_end}
use Rattle.std.specs.Float.Ieee.{nan, is_nan}
use Rattle.arith.specs.Laws.{max-first, max-second}
use Rattle.arith.specs.Methods.{abs-same}
use Rattle.reductions.specs.Reductions.{amax}
use Rattle.reductions.specs.Laws.{amax-number}
use Rattle.reductions.specs.Slices.{slice-turn, slice-end}
use Rattle.reductions.proofs.amax.Goals as goal
use Rattle.reductions.proofs.amax.Goals.{then-largest-size, else-largest-size}

pub loop-x-init : goal.loop-x-init
unfolding amax
loop-x-init c = fold-none _ _

-- largest is a number, so that the larger is `max`
pub loop-x-preserved : goal.loop-x-preserved
unfolding amax
loop-x-preserved c =
    let t = slice-turn nan c.args.n c.loop-x.x-index c.args.a.now c.requires c.loop-x-test.true in
    let m : is_nan c.loop-x.largest ≡ false = rw c.loop-x.invariant (amax-number c.loop-x.x-index c.args.a.now) in
    fold_call _ _ _ c.loop-x.invariant
    (rw (← abs-same, ← t.1, ← c.abs-size.ensures.value)
    (elim c.if-largest-size.branch [
      | then-largest-size w ↦ w.largest-is ∙ sym (max-second _ _ w.if-largest-size.true)
      | else-largest-size w ↦ w.largest-is ∙ sym (max-first _ _ m w.if-largest-size.false)
    ]))

pub returns : goal.returns
unfolding amax
returns c =
    let t = slice-end c.args.n c.loop-x.x-index c.args.a.now c.requires c.loop-x.auto.x-index-end c.loop-x-test.false in
    fold_end _ _ _ _ t.0 t.1 c.loop-x.invariant
