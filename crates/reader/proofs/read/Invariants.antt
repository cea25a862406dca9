use Rattle.folds.specs.Kit.{◌-◌, length}
use Rattle.format.specs.Loop.{ReadTo}
use Rattle.reader.proofs.read.Given as goal

abbrev pub invariant-loop-at : goal.invariant-loop-at
invariant-loop-at l = ReadTo l.s l.at l.last l.block

abbrev pub decreases-loop-at : goal.decreases-loop-at
decreases-loop-at l = length l.s - l.at
