use mathlib.Core.Path.{◌≡◌, refl}
use mathlib.Core.Bool.{true}
use native.Mathlib.Omega.{arith}
use borrow.Author.Tests.{lt-leb, lt-ltb, le-ltb}
use Rattle.folds.specs.Fold.{both-first, both-second, both_yes, tests}
use Rattle.format.specs.Read.{in_order, tag}
use Rattle.format.specs.Laws.{need_stop, need-on, from_yes, from_no, calls}
use Rattle.format.specs.Equations.{head_verdict_by}
use Rattle.fields.proofs.head_verdict.Goals as goal
use Rattle.fields.proofs.head_verdict.Goals.{Else-t-last}

-- the tag before is no cap, and not above this one
is_in_order : (e : Else-t-last) → in_order e.args.last (tag e.args.r.now) ≡ true
is_in_order e =
    both_yes (lt-ltb e.args.last 5 (omega (arith, e.if-last-ge-CAP.false)))
    (from_yes e.args.last e.byte_at-t.ensures.0 (omega (arith, e.if-t-last.false)))

pub returns-then-r-lt3 : goal.returns-then-r-lt3
returns-then-r-lt3 c = head_verdict_by _ _ _ (need_stop _ _ (lt-leb _ _ c.if-r-lt3.true))

pub returns-then-t-lt1 : goal.returns-then-t-lt1
returns-then-t-lt1 c = head_verdict_by _ _ _ (need-on _ _ (search tests) (need_stop _ _ (both-first _ (search calls))))

pub returns-then-t-gt-CAP : goal.returns-then-t-gt-CAP
returns-then-t-gt-CAP c = head_verdict_by _ _ _ (need-on _ _ (search tests) (need_stop _ _ (both-second _ (search calls))))

pub returns-then-last-ge-CAP : goal.returns-then-last-ge-CAP
returns-then-last-ge-CAP c =
    head_verdict_by _ _ _
    (need-on _ _ (search tests)
    (need-on _ _ (search (both_yes, calls, tests))
    (need_stop _ _ (both-first _ (le-ltb c.args.last 5 (omega arith))))))

pub returns-then-t-last : goal.returns-then-t-last
returns-then-t-last c =
    head_verdict_by _ _ _
    (need-on _ _ (search tests)
    (need-on _ _ (search (both_yes, calls, tests))
    (need_stop _ _ (both-second _ (from_no _ c.byte_at-t.ensures.0 (omega arith))))))

pub returns-then-not-has_room : goal.returns-then-not-has_room
returns-then-not-has_room c =
    head_verdict_by _ _ _
    (need-on _ _ (search tests)
    (need-on _ _ (search (both_yes, calls, tests))
    (need-on _ _ (is_in_order (goal.at.returns-then-not-has_room c).Else-t-last)
    (need_stop _ _ (search calls)))))

pub returns-then-count_of-lt1 : goal.returns-then-count_of-lt1
returns-then-count_of-lt1 c =
    head_verdict_by _ _ _
    (need-on _ _ (search tests)
    (need-on _ _ (search (both_yes, calls, tests))
    (need-on _ _ (is_in_order (goal.at.returns-then-count_of-lt1 c).Else-t-last)
    (need-on _ _ (search calls)
    (need_stop _ _ (search calls))))))

pub returns-then-r-u16_at : goal.returns-then-r-u16_at
returns-then-r-u16_at c =
    head_verdict_by _ _ _
    (need-on _ _ (search tests)
    (need-on _ _ (search (both_yes, calls, tests))
    (need-on _ _ (is_in_order (goal.at.returns-then-r-u16_at c).Else-t-last)
    (need-on _ _ (search calls)
    (need-on _ _ (search calls)
    (need_stop _ _ (search calls)))))))

pub returns : goal.returns
returns c =
    head_verdict_by _ _ _
    (need-on _ _ (search tests)
    (need-on _ _ (search (both_yes, calls, tests))
    (need-on _ _ (is_in_order (goal.at.returns c).Else-t-last)
    (need-on _ _ (search calls)
    (need-on _ _ (search calls)
    (need-on _ _ (search calls)
    refl))))))
