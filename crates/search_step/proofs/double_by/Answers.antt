use Rattle.folds.specs.Kit.{◌≡◌, length, sym, ◌∙◌, arith, rules}
use Rattle.sizes.specs.Sizes as Sizes
use lib.Seq.{length-take-le}
use Rattle.minimum.specs.Laws.{minimized_of-ok, minimized_of-err}
use Rattle.search_step.specs.Laws.{stepped-found, stepped-err, double-found, double_past, double-unbounded, double-broken}
use Rattle.search_step.proofs.double_by.Goals as goal

pub slice_bounds-turnover-end : goal.slice_bounds-turnover-end
slice_bounds-turnover-end c =
    let l : length c.in-Ok.optimum.x ≡ Sizes.variables = search rules in
    sym (length-take-le _ _ (omega arith))

pub turnover-value-requires : goal.turnover-value-requires
turnover-value-requires c = let p = c.requires in (omega (arith, p.0), omega (arith, slice_bounds-turnover-end c), p.1)

pub slice_bounds-within-end : goal.slice_bounds-within-end
slice_bounds-within-end c =
    let l : length c.in-Ok.optimum.x ≡ Sizes.variables = search rules in
    sym (length-take-le _ _ (omega arith))

pub within-requires : goal.within-requires
within-requires c = omega (arith, slice_bounds-within-end c)

pub returns-then-within : goal.returns-then-within
returns-then-within c w =
    rw (c.in-Ok.is, minimized_of-ok)
    (double-found _ w _ _ _ _ _ _ c.turnover-value.ensures (sym c.within.ensures ∙ c.if-within.true)
    c.accept.ensures (stepped-found _ w _))

pub returns-else-within : goal.returns-else-within
returns-else-within c w =
    rw (c.in-Ok.is, minimized_of-ok)
    (double_past _ w _ _ _ _ _ _ c.turnover-value.ensures (sym c.within.ensures ∙ c.if-within.false)
    c.exceed-past.ensures
    c.warmed.ensures (c.double_on.ensures _ w))

pub returns-in-Unbounded : goal.returns-in-Unbounded
returns-in-Unbounded c w =
    rw (c.in-Err.is, minimized_of-err, c.in-Unbounded.is)
    (double-unbounded _ w _ _ _ c.infinity.ensures c.exceed.ensures (c.double_on-in-Unbounded.ensures _ w))

pub returns-in_default : goal.returns-in_default
returns-in_default c w = rw (c.in-Err.is, minimized_of-err) (stepped-err _ w _ ∙ double-broken _ _ _ _ _ c.in_default.not-Unbounded)
