use Rattle.folds.specs.Kit.{pick}
use Rattle.std.proofs.Common.{le-ltb, lt-ltb}
use Rattle.slacks.specs.Slacks.{one_segments}
use Rattle.slacks.proofs.one_segments.Goals as goal

pub returns-then-i-n : goal.returns-then-i-n
unfolding one_segments pick
returns-then-i-n c =
    let s = c.variable_segments in record {
      value = rw (lt-ltb _ _ c.if-i-n.true) s.ensures.value;
      cut = s.ensures.cut;
    }

pub returns : goal.returns
unfolding one_segments pick
returns c =
    let s = c.slack_segments in record {
      value = rw (le-ltb _ _ c.if-i-n.false) s.ensures.value;
      cut = s.ensures.cut;
    }
