use Rattle.std.specs.Prelude.{Ok}
use Rattle.std.proofs.lemmas.Result.{err_from_is_err_and}
use Rattle.folds.specs.Kit.{refl, sym, ap, ◌∙◌}
use Rattle.bracket.specs.Ends.{rising-held}
use Rattle.search_step.specs.Step.{stepped_of}
use Rattle.search_step.specs.Laws.{stepped-more, stepped-found, stepped-err, ended-ok, ended-err}
use Rattle.multiplier.specs.Ends.{cut_in, narrowed-more, narrowed-done}
use Rattle.multiplier.proofs.narrow.Goals as goal

pub loop-step-init : goal.loop-step-init
loop-step-init c =
    (rising-held _ c.well_formed.0.1.1.0.1 c.well_formed.0.1.1.1.1.1.0.1 c.requires.1, refl)

pub cut_step-requires : goal.cut_step-requires
cut_step-requires c = c.requires.0

pub loop-step-smaller : goal.loop-step-smaller
loop-step-smaller c =
    let e = sym c.cut_step.ensures ∙ ap (stepped_of _ _) (c.in_ok-step.was ∙ ap Ok c.in-More.is) ∙ stepped-more _ _ _ in
    (cut_in _ _ _ _ c.loop-step.invariant.0 e).1

pub loop-step-preserved : goal.loop-step-preserved
loop-step-preserved c =
    let i = c.loop-step.invariant in
    let e = sym c.cut_step.ensures ∙ ap (stepped_of _ _) (c.in_ok-step.was ∙ ap Ok c.in-More.is) ∙ stepped-more _ _ _ in
    ((cut_in _ _ _ _ i.0 e).0, narrowed-more _ _ _ _ i.0 e ∙ i.1)

pub returns-in-Found : goal.returns-in-Found
returns-in-Found c =
    ended-ok _ _ _
    ∙ narrowed-done _ _ _ _ (sym c.cut_step.ensures ∙ ap (stepped_of _ _) (c.in_ok-step.was ∙ ap Ok c.in-Found.is) ∙ stepped-found _ _ _)
    ∙ c.loop-step.invariant.1

pub returns-in_err-step : goal.returns-in_err-step
returns-in_err-step c =
    let p = err_from_is_err_and c.from_residual.result c.from_residual.ensures.1 in
    rw (p.1, p.2)
    (ended-err _ _ _
    ∙ narrowed-done _ _ _ _ (sym c.cut_step.ensures ∙ ap (stepped_of _ _) c.in_err-step.was ∙ stepped-err _ _ _)
    ∙ c.loop-step.invariant.1)
