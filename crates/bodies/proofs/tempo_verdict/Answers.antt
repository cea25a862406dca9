use Rattle.folds.specs.Fold.{both-first, both-second, both_yes}
use Rattle.format.specs.Laws.{need_stop, need-on, calls}
use Rattle.format.specs.Equations.{tempo_verdict_by}
use Rattle.bodies.proofs.tempo_verdict.Goals as goal

pub returns-then-weight-lt1 : goal.returns-then-weight-lt1
returns-then-weight-lt1 c = tempo_verdict_by _ _ _ (need_stop _ _ (both-first _ (search calls)))

pub returns-then-weight-gt-MAX_WEIGHT : goal.returns-then-weight-gt-MAX_WEIGHT
returns-then-weight-gt-MAX_WEIGHT c = tempo_verdict_by _ _ _ (need_stop _ _ (both-second _ (search calls)))

pub returns-then-not-i32_size_up_to : goal.returns-then-not-i32_size_up_to
returns-then-not-i32_size_up_to c = tempo_verdict_by _ _ _ (need-on _ _ (search (both_yes, calls)) (need_stop _ _ (search calls)))

pub returns : goal.returns
returns c = tempo_verdict_by _ _ _ (need-on _ _ (search (both_yes, calls)) (need-on _ _ (search calls) c.list_verdict.ensures))
