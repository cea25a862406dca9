use mathlib.Core.Path.{refl}
use Rattle.std.proofs.lemmas.Result.{err_from_is_err_and}
use Rattle.format.specs.Laws.{need_stop, need-on, after_stop, accepted_ok, accepted-err, test_is}
use Rattle.format.specs.Equations.{span_verdict_by}
use Rattle.bodies.proofs.span_verdict.Goals as goal

pub returns-then-not-i32_size_up_to : goal.returns-then-not-i32_size_up_to
returns-then-not-i32_size_up_to c = span_verdict_by _ _ _ (need_stop _ _ (search test_is))

pub returns-then-not-i32_size_up_to-2 : goal.returns-then-not-i32_size_up_to-2
returns-then-not-i32_size_up_to-2 c = span_verdict_by _ _ _ (need-on _ _ (search test_is) (need_stop _ _ (search test_is)))

pub returns-in_err-list_verdict : goal.returns-in_err-list_verdict
returns-in_err-list_verdict c =
    let p = err_from_is_err_and c.from_residual.result c.from_residual.ensures.1 in
    let l = c.in_err-list_verdict.ensures in
    rw (p.1, p.2) (span_verdict_by _ _ _ (need-on _ _ (search test_is) (need-on _ _ (search test_is) (after_stop _ l (accepted-err _ l)))))

pub returns-then-not-i32_le : goal.returns-then-not-i32_le
returns-then-not-i32_le c =
    span_verdict_by _ _ _
    (need-on _ _ (search test_is)
    (need-on _ _ (search test_is)
    (need-on _ _ (accepted_ok c.in_ok-list_verdict.ensures)
    (need_stop _ _ (search test_is)))))

pub returns : goal.returns
returns c =
    span_verdict_by _ _ _
    (need-on _ _ (search test_is)
    (need-on _ _ (search test_is)
    (need-on _ _ (accepted_ok c.in_ok-list_verdict.ensures)
    (need-on _ _ (search test_is)
    refl))))
