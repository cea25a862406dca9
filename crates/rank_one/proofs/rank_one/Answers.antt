use Rattle.folds.specs.Kit.{◌≡◌, ◌-◌, ◌≤◌, arith, length, rules, span, spans, span_call}
use Rattle.folds.specs.Part.{two}
use Rattle.rank_one.specs.RankOne.{rank_one, rank_column}
use Rattle.rank_one.proofs.rank_one.Goals as goal

ruleset kit = (spans, rules)

pub loop-j-preserved : goal.loop-j-preserved
unfolding rank_one
loop-j-preserved c =
    let at = c.loop-j.invariant in
    (omega arith, omega arith, omega arith, omega arith, span_call _ _ _ _ at.0 at.4 c.rank_column.ensures)

pub loop-j-init : goal.loop-j-init
unfolding rank_one
loop-j-init c = search kit

pub returns : goal.returns
unfolding rank_one
returns c = search kit
