use mir.Val.{SFits}
use mir.Syntax.{w64}
use mathlib.Core.Path.{◌≡◌, sym, ◌∙◌, ap}
use borrow.Author.Rules.{rules}
use lib.IntN.{pos}
use mir.Facts.{to_z-of_z}
use Rattle.folds.specs.Fold.{pick}
use Rattle.block.specs.Gap.{price}
use Rattle.plan_check.specs.Check.{between, cap_in}
use Rattle.plan_check.specs.Laws.{price_far, cap-judged}
use Rattle.plan_check.proofs.check_prices.Goals as goal
use Rattle.plan_check.proofs.check_prices.Goals.{After-between}

-- the test of the cap's price
module _ (c : After-between) where
  tested : c.between.result ≡ cap_in (price c.args.prices.now c.args.n)
  unfolding cap_in
  tested = c.between.ensures ∙ ap (between (pos 0) (pos 4294967296)) (let f : SFits w64 (price c.args.prices.now c.args.n) = search rules in to_z-of_z f)

pub returns-then-not-prices_in : goal.returns-then-not-prices_in
unfolding pick
returns-then-not-prices_in c = price_far _ _ (sym c.prices_in.ensures ∙ c.if-not-prices_in.true)

pub returns-then-not-between : goal.returns-then-not-between
unfolding pick
returns-then-not-between c = cap-judged _ _ (sym c.prices_in.ensures ∙ c.if-not-prices_in.false) (sym (tested (goal.at.returns-then-not-between c).After-between) ∙ c.if-not-between.true)

pub returns : goal.returns
unfolding pick
returns c = cap-judged _ _ (sym c.prices_in.ensures ∙ c.if-not-prices_in.false) (sym (tested (goal.at.returns c).After-between) ∙ c.if-not-between.false)
