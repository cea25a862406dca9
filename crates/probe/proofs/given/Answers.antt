use Rattle.folds.specs.Kit.{sym, ◌∙◌, arith, pick}
use Rattle.std.proofs.Common.{length-take-le}
use Rattle.vector.specs.Laws.{copy-over}
use Rattle.probe.specs.Hooks.{answered}
use Rattle.probe.proofs.given.Goals as goal

pub slice_bounds-copy-end : goal.slice_bounds-copy-end
slice_bounds-copy-end c = sym (length-take-le _ _ (omega (arith, c.requires.0)))

pub slice_bounds-copy-end-then-found : goal.slice_bounds-copy-end-then-found
slice_bounds-copy-end-then-found c = sym (length-take-le _ _ (omega (arith, c.requires.1)))

pub slice_bounds-fm-end : goal.slice_bounds-fm-end
slice_bounds-fm-end c = omega (arith, c.requires.1)

pub returns-then-found : goal.returns-then-found
returns-then-found c =
    let p = c.requires in
    rw (
      c.if-found.true,
      c.copy.ensures ∙ copy-over _ _ _ (length-take-le _ _ (omega (arith, p.0))) p.2,
      c.copy-then-found.ensures ∙ copy-over _ _ _ (length-take-le _ _ (omega (arith, p.1))) p.3,
    )

pub returns : goal.returns
returns c = unfold answered pick in rw c.if-found.false
