use Rattle.folds.specs.Kit.{pick}
use Rattle.releasing.specs.Release.{release, outcome}
use Rattle.releasing.proofs.release.Goals as goal

pub returns-then-wrong : goal.returns-then-wrong
unfolding release outcome pick
returns-then-wrong c =
    let wrong = c.wrong_ones-wrong in
    rw (← wrong.ensures.0, c.in_default.is, ← wrong.ensures.1, c.if-wrong.true)

pub returns-in_default : goal.returns-in_default
unfolding release outcome pick
returns-in_default c =
    let wrong = c.wrong_ones-wrong in
    rw (← wrong.ensures.0, c.in_default.is, ← wrong.ensures.1, c.if-wrong.false)

pub returns : goal.returns
unfolding release outcome
returns c = rw (← c.wrong_ones-wrong.ensures.0, c.in-Some.is)
