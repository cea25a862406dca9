use Rattle.std.proofs.lemmas.Result.{err_from_is_err_and}
use Rattle.folds.specs.Kit.{sym, ap, ◌∙◌}
use Rattle.bracket.specs.Ends.{rising-held, held-rising}
use Rattle.search_step.specs.Step.{ended_of}
use Rattle.search_step.specs.Laws.{ended-ok, ended-err}
use Rattle.multiplier.specs.Ends.{reached-held}
use Rattle.multiplier.specs.Laws.{then-narrowed, error-passed}
use Rattle.multiplier.proofs.reach_and_narrow.Goals as goal

pub narrow-requires : goal.narrow-requires
narrow-requires c =
    let v = rising-held c.args.bracket c.well_formed.0.1.1.0.1 c.well_formed.0.1.1.1.1.1.0.1 c.requires.1 in
    let e = sym c.reach.ensures ∙ ap (ended_of _ _) c.in_ok-found.was ∙ ended-ok _ _ _ in
    (c.requires.0, held-rising _ (reached-held _ _ _ _ v e))

pub returns : goal.returns
returns c =
    then-narrowed _ _ _ (sym c.reach.ensures ∙ ap (ended_of _ _) c.in_ok-found.was ∙ ended-ok _ _ _) c.narrow.ensures

pub returns-in_err-found : goal.returns-in_err-found
returns-in_err-found c =
    let p = err_from_is_err_and c.from_residual.result c.from_residual.ensures.1 in
    rw (p.1, p.2) (ended-err _ _ _ ∙ error-passed _ _ _ (sym (ended-err _ _ _) ∙ (rw c.in_err-found.was at c.reach.ensures)))
