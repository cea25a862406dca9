use Rattle.folds.specs.Kit.{refl, arith, rules}
use Rattle.std.proofs.lemmas.Result.{err_from_is_err_and}
use Rattle.format.specs.Laws.{same_yes, same_no, need_stop, need-on, accepted_ok, accepted-err, first-none, first_turn, first_stop, first_end}
use Rattle.format.specs.Equations.{list_verdict_by}
use Rattle.bodies.proofs.list_verdict.Goals as goal

pub returns-then-byte_at-count : goal.returns-then-byte_at-count
returns-then-byte_at-count c = list_verdict_by _ _ _ _ (need_stop _ _ (same_no _ c.byte_at.ensures.0 (λ e. omega (arith, e, c.if-byte_at-count.true))))

pub loop-i-init : goal.loop-i-init
loop-i-init c = (search rules, first-none _)

pub returns-in_err-pair_verdict : goal.returns-in_err-pair_verdict
returns-in_err-pair_verdict c =
    let p = err_from_is_err_and c.from_residual.result c.from_residual.ensures.1 in
    rw (p.1, p.2)
    (list_verdict_by _ _ _ _
    (need-on _ _ (same_yes _ c.byte_at.ensures.0 (omega (arith, c.if-byte_at-count.false)))
    (first_stop _ _ c.loop-i.invariant.1 _ c.loop-i-test.true c.in_err-pair_verdict.ensures (accepted-err _ refl))))

pub loop-i-preserved : goal.loop-i-preserved
loop-i-preserved c = (omega arith, first_turn _ _ c.loop-i.invariant.1 c.in_ok-pair_verdict.ensures (accepted_ok refl))

pub returns : goal.returns
returns c =
    list_verdict_by _ _ _ _
    (need-on _ _ (same_yes _ c.byte_at.ensures.0 (omega (arith, c.if-byte_at-count.false)))
    (first_end _ _ c.loop-i.invariant.1 _ c.loop-i.invariant.0 c.loop-i-test.false))
