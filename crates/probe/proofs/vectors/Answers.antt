use Rattle.folds.specs.Kit.{tests}
use Rattle.probe.specs.Hooks.{vectors}
use Rattle.probe.proofs.vectors.Goals as goal

pub returns-then-c-n : goal.returns-then-c-n
unfolding vectors
returns-then-c-n c = search tests

pub returns-then-b-m : goal.returns-then-b-m
unfolding vectors
returns-then-b-m c = search tests

pub returns-then-x-n : goal.returns-then-x-n
unfolding vectors
returns-then-x-n c = search tests depth 9

pub returns-then-multipliers-m : goal.returns-then-multipliers-m
unfolding vectors
returns-then-multipliers-m c = search tests depth 9

pub returns : goal.returns
unfolding vectors
returns c = search tests depth 11
