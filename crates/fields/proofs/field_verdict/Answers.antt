use Rattle.folds.specs.Kit.{sym, ◌∙◌, arith}
use Rattle.std.proofs.lemmas.Result.{err_from_is_err_and}
use Rattle.format.specs.Laws.{need-on, accepted_ok, accepted-err, after_stop, body-is, body-same}
use Rattle.format.specs.Equations.{field_verdict_by}
use Rattle.format.specs.Whole.{whole}
use Rattle.fields.proofs.field_verdict.Goals as goal

pub returns-in_err-head_verdict : goal.returns-in_err-head_verdict
returns-in_err-head_verdict c =
    let p = err_from_is_err_and c.from_residual.result c.from_residual.ensures.1 in
    let h = c.in_err-head_verdict.ensures in
    rw (p.1, p.2) (field_verdict_by _ _ _ (after_stop _ h (accepted-err _ h)))

pub slice_bounds-body_verdict-end : goal.slice_bounds-body_verdict-end
slice_bounds-body_verdict-end c =
    let i = c.args in
    let w = whole i.r.now i.last i.so (accepted_ok c.in_ok-head_verdict.ensures) in
    omega (arith, w.header, w.body, c.u16_at.ensures.0)

pub returns : goal.returns
returns c =
    let b = body-is c.args.r.now _ c.u16_at.ensures.0 in
    field_verdict_by _ _ _
    (need-on _ _ (accepted_ok c.in_ok-head_verdict.ensures)
    (c.body_verdict.ensures ∙ body-same _ c.byte_at-t.ensures.0 b c.count_of-k.ensures.0))
