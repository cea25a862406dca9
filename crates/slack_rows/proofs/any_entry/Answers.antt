use Rattle.folds.specs.Kit.{arith, somes, rules}
use Rattle.folds.specs.Fold.{some_stop, some_turn}
use Rattle.slack_rows.specs.SlackRows.{any_entry}
use Rattle.slack_rows.proofs.any_entry.Goals as goal

ruleset kit = (somes, rules)

pub get-requires : goal.get-requires
unfolding any_entry
get-requires c =
    let p = c.requires in
    (p.0.entries, p.0.below c.loop-i.i-index c.loop-i-test.true, p.1)

pub returns-then-get : goal.returns-then-get
unfolding any_entry
returns-then-get c = some_stop _ _ _ c.loop-i-test.true (rw (← c.get.ensures) c.if-get.true)

pub loop-i-preserved : goal.loop-i-preserved
unfolding any_entry
loop-i-preserved c = (omega arith, some_turn _ _ c.loop-i.invariant.1 (rw (← c.get.ensures) c.if-get.false))

pub loop-i-init : goal.loop-i-init
unfolding any_entry
loop-i-init c = search kit

pub returns : goal.returns
unfolding any_entry
returns c = search kit
