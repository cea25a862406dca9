use Rattle.folds.specs.Fold.{pick}
use Rattle.format.specs.Laws.{choices}
use Rattle.format.specs.Read.{body_verdict}
use Rattle.fields.proofs.body_verdict.Goals as goal

pub returns-in-1 : goal.returns-in-1
unfolding body_verdict pick
returns-in-1 c = rw c.in-1.is c.word_verdict.ensures

pub returns-in-2 : goal.returns-in-2
unfolding body_verdict pick
returns-in-2 c = rw c.in-2.is c.tempo_verdict.ensures

pub returns-in-3 : goal.returns-in-3
unfolding body_verdict pick
returns-in-3 c = rw c.in-3.is c.anchor_verdict.ensures

pub returns-in-4 : goal.returns-in-4
unfolding body_verdict pick
returns-in-4 c = rw c.in-4.is c.span_verdict.ensures

pub returns-in_default : goal.returns-in_default
returns-in_default c = search choices depth 10
