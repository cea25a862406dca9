use mathlib.Core.Path.{refl}
use Rattle.format.specs.Laws.{need_stop, need-on, not_true, not_false, calls}
use Rattle.format.specs.Equations.{pair_verdict_by}
use Rattle.bodies.proofs.pair_verdict.Goals as goal

pub returns-then-words-byte_at : goal.returns-then-words-byte_at
returns-then-words-byte_at c = pair_verdict_by _ _ _ _ (need_stop _ _ (search calls))

pub returns-then-not-rises : goal.returns-then-not-rises
returns-then-not-rises c = pair_verdict_by _ _ _ _ (need-on _ _ (search calls) (need_stop _ _ (search calls)))

pub returns-then-not-i8_size_up_to : goal.returns-then-not-i8_size_up_to
returns-then-not-i8_size_up_to c = pair_verdict_by _ _ _ _ (need-on _ _ (search calls) (need-on _ _ (search calls) (need_stop _ _ (search calls))))

pub returns-then-i8_is_zero : goal.returns-then-i8_is_zero
returns-then-i8_is_zero c =
    pair_verdict_by _ _ _ _
    (need-on _ _ (search calls)
    (need-on _ _ (search calls)
    (need-on _ _ (search calls)
    (need_stop _ _ (search (not_false, calls))))))

pub returns : goal.returns
returns c =
    pair_verdict_by _ _ _ _
    (need-on _ _ (search calls)
    (need-on _ _ (search calls)
    (need-on _ _ (search calls)
    (need-on _ _ (search (not_true, calls))
    refl))))
