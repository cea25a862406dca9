use mir.Syntax.{w64}
use Rattle.folds.specs.Kit.{sym, ◌∙◌}
use mir.Facts.{to_z-of_z}
use Rattle.std.proofs.lemmas.Result.{err_from_is_err_and}
use Rattle.plan_check.specs.Laws.{passed, block-refused, plan-refused, gap-given}
use Rattle.plan_check.proofs.check.Goals as goal

pub returns-in_err-b : goal.returns-in_err-b
returns-in_err-b c =
    let p = err_from_is_err_and c.from_residual.result c.from_residual.ensures.1 in
    rw (p.1, p.2) (λ old. block-refused _ _ _ old _ c.in_err-b.ensures.result_value)

pub returns-in_err-check_plan : goal.returns-in_err-check_plan
returns-in_err-check_plan c =
    let p = err_from_is_err_and c.from_residual-in_err-check_plan.result c.from_residual-in_err-check_plan.ensures.1 in
    rw (p.1, p.2) (λ old. plan-refused _ _ _ old _ c.in_ok-b.ensures.result_value _ c.in_err-check_plan.ensures)

pub gap_of-requires : goal.gap_of-requires
gap_of-requires c =
    let r = c.in_ok-b.ensures in
    record { sound = r.sound; ranged = r.ranged; plan_and_prices = passed _ _ _ (sym c.in_ok-check_plan.ensures) }

pub returns : goal.returns
returns c =
    λ old.
    let r = c.in_ok-b.ensures in
    gap-given _ _ _ old _ r.result_value r.ranged (sym c.in_ok-check_plan.ensures)
    (to_z-of_z {w = w64} (record { sfits = c.gap_of.type_inv }) ∙ c.gap_of.ensures)
