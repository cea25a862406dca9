use Rattle.folds.specs.Kit.{rules, pick}
use Rattle.slack_scales.specs.SlackScales.{smaller}
use Rattle.slack_scales.proofs.smaller.Goals as goal

pub returns-then-a : goal.returns-then-a
unfolding smaller pick
returns-then-a c = rw c.if-a.true

pub returns : goal.returns
unfolding smaller pick
returns c = rw (c.if-a.false, ← c.abs.ensures) c.min.ensures
