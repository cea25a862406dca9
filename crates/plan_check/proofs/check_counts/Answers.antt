use Rattle.plan_check.specs.Laws.{times-wrong, prices-wrong, counts-right}
use Rattle.plan_check.proofs.check_counts.Goals as goal

pub returns-then-times-b : goal.returns-then-times-b
returns-then-times-b c = times-wrong _ _ _ _ c.if-times-b.true

pub returns-then-prices-b : goal.returns-then-prices-b
returns-then-prices-b c = prices-wrong _ _ _ _ c.if-times-b.false c.if-prices-b.true

pub returns : goal.returns
returns c = counts-right _ _ _ _ c.if-times-b.false c.if-prices-b.false
