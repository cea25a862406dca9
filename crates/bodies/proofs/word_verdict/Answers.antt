use mathlib.Core.Path.{refl}
use native.Mathlib.Omega.{arith}
use Rattle.format.specs.Laws.{need_stop, need-on, upto_yes, upto_no, calls, orders}
use Rattle.format.specs.Equations.{word_verdict_by}
use Rattle.bodies.proofs.word_verdict.Goals as goal

pub returns-then-lower-gt-MAX_TIME : goal.returns-then-lower-gt-MAX_TIME
returns-then-lower-gt-MAX_TIME c = word_verdict_by _ (need_stop _ _ (search calls))

pub returns-then-upper-gt-MAX_TIME : goal.returns-then-upper-gt-MAX_TIME
returns-then-upper-gt-MAX_TIME c = word_verdict_by _ (need-on _ _ (search calls) (need_stop _ _ (search calls)))

pub returns-then-u32_at-gt-MAX_TIME : goal.returns-then-u32_at-gt-MAX_TIME
returns-then-u32_at-gt-MAX_TIME c = word_verdict_by _ (need-on _ _ (search calls) (need-on _ _ (search calls) (need_stop _ _ (search calls))))

pub returns-then-u32_at-gt-MAX_TIME-2 : goal.returns-then-u32_at-gt-MAX_TIME-2
returns-then-u32_at-gt-MAX_TIME-2 c = word_verdict_by _ (need-on _ _ (search calls) (need-on _ _ (search calls) (need-on _ _ (search calls) (need_stop _ _ (search calls)))))

pub returns-then-u32_at-gt-MAX_SLOPE : goal.returns-then-u32_at-gt-MAX_SLOPE
returns-then-u32_at-gt-MAX_SLOPE c =
    word_verdict_by _
    (need-on _ _ (search calls)
    (need-on _ _ (search calls)
    (need-on _ _ (search calls)
    (need-on _ _ (search calls)
    (need_stop _ _ (upto_no _ c.u32_at-3.ensures.0 (omega arith)))))))

pub returns-then-upper-lower : goal.returns-then-upper-lower
returns-then-upper-lower c =
    word_verdict_by _
    (need-on _ _ (search calls)
    (need-on _ _ (search calls)
    (need-on _ _ (search calls)
    (need-on _ _ (search calls)
    (need-on _ _ (upto_yes _ c.u32_at-3.ensures.0 (omega (arith, c.if-u32_at-gt-MAX_SLOPE.false)))
    (need_stop _ _ (search orders)))))))

pub returns : goal.returns
returns c =
    word_verdict_by _
    (need-on _ _ (search calls)
    (need-on _ _ (search calls)
    (need-on _ _ (search calls)
    (need-on _ _ (search calls)
    (need-on _ _ (upto_yes _ c.u32_at-3.ensures.0 (omega (arith, c.if-u32_at-gt-MAX_SLOPE.false)))
    (need-on _ _ (search orders)
    refl))))))
