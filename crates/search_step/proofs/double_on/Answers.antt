use Rattle.folds.specs.Kit.{◌∙◌, rules, pick_true, pick_false}
use Rattle.bracket.specs.Laws.{of-double}
use Rattle.search_step.specs.Step.{double_on}
use Rattle.search_step.specs.Laws.{stepped-more, stepped-err}
use Rattle.search_step.proofs.double_on.Goals as goal

pub returns-then-bracket : goal.returns-then-bracket
unfolding double_on
returns-then-bracket c n w = pick_true _ _ c.if-bracket.true (stepped-err n w _)

pub returns : goal.returns
unfolding double_on
returns c n w = pick_false _ _ c.if-bracket.false (stepped-more n w _ ∙ rw (c.double.ensures, of-double n w))
