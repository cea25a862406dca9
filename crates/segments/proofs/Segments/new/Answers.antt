use Rattle.folds.specs.Kit.{kit, pick}
use Rattle.segments.specs.Segments.{new}
use Rattle.segments.proofs.Segments.new.Goals as goal

pub returns-then-cuts : goal.returns-then-cuts
unfolding new pick
returns-then-cuts c = record {
  value = rw (← c.cuts.ensures, c.if-cuts.true);
  cut = search kit;
}

pub returns : goal.returns
unfolding new pick
returns c = record {
  value = rw (← c.cuts.ensures, c.if-cuts.false, ← c.side-s.ensures);
  cut = search kit;
}
