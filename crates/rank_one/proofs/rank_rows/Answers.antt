use Rattle.folds.specs.Kit.{◌≡◌, ◌+◌, ◌-◌, ◌≤◌, arith, length, rules, span, spans, span_call}
use Rattle.folds.specs.Part.{two}
use Rattle.rank_one.specs.RankOne.{rank_row, rank_rows}
use Rattle.rank_one.proofs.rank_rows.Goals as goal

ruleset kit = (spans, rules)

pub loop-i-preserved : goal.loop-i-preserved
unfolding rank_rows
loop-i-preserved c =
    let at = c.loop-i.invariant in
    (omega arith, omega arith, omega arith, omega arith, span_call _ _ _ _ at.0 at.4 c.rank_row.ensures)

pub loop-i-init : goal.loop-i-init
unfolding rank_rows
loop-i-init c = search kit

pub returns : goal.returns
unfolding rank_rows
returns c = search kit
