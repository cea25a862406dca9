use Rattle.folds.specs.Kit.{arith, tests}
use Rattle.folds.specs.Cell.{small-fits}
use Rattle.kkt.specs.Kkt.{shaped}
use Rattle.kkt.proofs.shaped.Goals as goal

pub returns-then-n-gt-ORIGINALS : goal.returns-then-n-gt-ORIGINALS
unfolding shaped
returns-then-n-gt-ORIGINALS c = search tests depth 12

pub overflow_mul-n : goal.overflow_mul-n
overflow_mul-n c = small-fits (omega arith) (omega arith)

pub overflow_mul-n-2 : goal.overflow_mul-n-2
overflow_mul-n-2 c = small-fits (omega arith) (omega arith)

pub returns-then-m-gt-EQUALITIES : goal.returns-then-m-gt-EQUALITIES
unfolding shaped
returns-then-m-gt-EQUALITIES c = search tests depth 12

pub returns-then-k-n : goal.returns-then-k-n
unfolding shaped
returns-then-k-n c = search tests depth 12

pub returns-then-c-n : goal.returns-then-c-n
unfolding shaped
returns-then-c-n c = search tests depth 12

pub returns-then-e-n : goal.returns-then-e-n
unfolding shaped
returns-then-e-n c = search tests depth 12

pub returns-then-b-m : goal.returns-then-b-m
unfolding shaped
returns-then-b-m c = search tests depth 12

pub returns-then-x-n : goal.returns-then-x-n
unfolding shaped
returns-then-x-n c = search tests depth 12

pub returns : goal.returns
unfolding shaped
returns c = search tests depth 12
