use Rattle.folds.specs.Kit.{◌≡◌, true, length, rules, pick}
use lib.Ieee.{lt}
use Rattle.sizes.specs.Sizes as Sizes
use Rattle.arith.specs.Float.{f0}
use Rattle.blocking.specs.Blocking.{refusals}
use Rattle.blocking.proofs.refusals.Goals as goal
use Rattle.blocking.proofs.refusals.Goals.{Start}

refused-length : (c : Start) → length c.args.refused ≡ Sizes.variables
refused-length c = search rules

pub returns-then-step : goal.returns-then-step
unfolding refusals pick
returns-then-step c = let above : lt f0 c.args.step ≡ true = c.if-step.true in rw (above, refused-length (goal.at.returns-then-step c).Start)

pub returns-then-eq : goal.returns-then-eq
unfolding refusals pick
returns-then-eq c = rw (c.if-step.false, ← c.eq.ensures, c.if-eq.true)

pub returns : goal.returns
unfolding refusals pick
returns c = rw (c.if-step.false, ← c.eq.ensures, c.if-eq.false)
