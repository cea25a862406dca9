use mathlib.Core.Path.{refl}
use borrow.Author.Tests.{lt-leb, le-leb, eq-eqb, ne_eqb}
use Rattle.format.specs.Laws.{need_stop, need-on}
use Rattle.format.specs.Equations.{end_verdict_by}
use Rattle.reader.proofs.end_verdict.Goals as goal

pub returns-then-words-lt1 : goal.returns-then-words-lt1
returns-then-words-lt1 c = end_verdict_by _ _ (need_stop _ _ (lt-leb _ _ c.if-words-lt1.true))

pub returns-then-last-ne-CAP : goal.returns-then-last-ne-CAP
returns-then-last-ne-CAP c = end_verdict_by _ _ (need-on _ _ (le-leb _ _ c.if-words-lt1.false) (need_stop _ _ (ne_eqb _ _ c.if-last-ne-CAP.true)))

pub returns : goal.returns
returns c = end_verdict_by _ _ (need-on _ _ (le-leb _ _ c.if-words-lt1.false) (need-on _ _ (eq-eqb _ _ c.if-last-ne-CAP.false) refl))
