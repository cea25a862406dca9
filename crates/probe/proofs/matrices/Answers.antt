use Rattle.folds.specs.Kit.{arith, tests}
use Rattle.folds.specs.Cell.{small-fits}
use Rattle.probe.specs.Hooks.{matrices}
use Rattle.probe.proofs.matrices.Goals as goal

pub overflow_mul-square : goal.overflow_mul-square
unfolding matrices
overflow_mul-square c = small-fits (omega arith) (omega arith)

pub overflow_mul-entries : goal.overflow_mul-entries
unfolding matrices
overflow_mul-entries c = small-fits (omega arith) (omega arith)

pub overflow_mul-m : goal.overflow_mul-m
unfolding matrices
overflow_mul-m c = small-fits (omega arith) (omega arith)

pub returns-then-n-gt-ORIGINALS : goal.returns-then-n-gt-ORIGINALS
unfolding matrices
returns-then-n-gt-ORIGINALS c = search tests

pub returns-then-m-gt-COLUMNS : goal.returns-then-m-gt-COLUMNS
unfolding matrices
returns-then-m-gt-COLUMNS c = search tests

pub returns-then-l-square : goal.returns-then-l-square
unfolding matrices
returns-then-l-square c = search tests depth 9

pub returns-then-k-square : goal.returns-then-k-square
unfolding matrices
returns-then-k-square c = search tests depth 9

pub returns-then-e-entries : goal.returns-then-e-entries
unfolding matrices
returns-then-e-entries c = search tests depth 11

pub returns-then-w-entries : goal.returns-then-w-entries
unfolding matrices
returns-then-w-entries c = search tests depth 13

pub returns-then-g-m : goal.returns-then-g-m
unfolding matrices
returns-then-g-m c = search tests depth 15

pub returns : goal.returns
unfolding matrices
returns c = search tests depth 17
