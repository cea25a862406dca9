use Rattle.folds.specs.Kit.{arith, tests}
use Rattle.folds.specs.Cell.{small-fits}
use Rattle.quadratic.specs.Quadratic.{sized}
use Rattle.quadratic.proofs.sized.Goals as goal

pub overflow_mul-n : goal.overflow_mul-n
unfolding sized
overflow_mul-n c = small-fits (omega arith) (omega arith)

pub overflow_mul-n-2 : goal.overflow_mul-n-2
unfolding sized
overflow_mul-n-2 c = small-fits (omega arith) (omega arith)

pub overflow_mul-result : goal.overflow_mul-result
unfolding sized
overflow_mul-result c = small-fits (omega arith) (omega arith)

pub returns-then-n-gt-ORIGINALS : goal.returns-then-n-gt-ORIGINALS
unfolding sized
returns-then-n-gt-ORIGINALS c = search tests depth 12

pub returns-then-m-gt-EQUALITIES : goal.returns-then-m-gt-EQUALITIES
unfolding sized
returns-then-m-gt-EQUALITIES c = search tests depth 12

pub returns-then-r-gt-ROWS : goal.returns-then-r-gt-ROWS
unfolding sized
returns-then-r-gt-ROWS c = search tests depth 12

pub returns-then-q-n : goal.returns-then-q-n
unfolding sized
returns-then-q-n c = search tests depth 12

pub returns-then-c-n : goal.returns-then-c-n
unfolding sized
returns-then-c-n c = search tests depth 12

pub returns-then-e-n : goal.returns-then-e-n
unfolding sized
returns-then-e-n c = search tests depth 12

pub returns-then-b-m : goal.returns-then-b-m
unfolding sized
returns-then-b-m c = search tests depth 12

pub returns : goal.returns
unfolding sized
returns c = search tests depth 12
