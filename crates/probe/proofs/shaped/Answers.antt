use Rattle.folds.specs.Kit.{arith, tests}
use Rattle.folds.specs.Cell.{small-fits}
use Rattle.probe.specs.Probe.{shaped}
use Rattle.probe.proofs.shaped.Goals as goal

pub overflow_mul-count : goal.overflow_mul-count
unfolding shaped
overflow_mul-count c = small-fits (omega arith) (omega arith)

pub returns-then-n-gt48 : goal.returns-then-n-gt48
unfolding shaped
returns-then-n-gt48 c = search tests

pub returns-then-a-count : goal.returns-then-a-count
unfolding shaped
returns-then-a-count c = search tests

pub returns-then-room-count : goal.returns-then-room-count
unfolding shaped
returns-then-room-count c = search tests

pub returns-then-values-n : goal.returns-then-values-n
unfolding shaped
returns-then-values-n c = search tests depth 9

pub returns-then-vectors-count : goal.returns-then-vectors-count
unfolding shaped
returns-then-vectors-count c = search tests depth 9

pub returns : goal.returns
unfolding shaped
returns c = search tests depth 11
