use Rattle.folds.specs.Kit.{tests, rules}
use Rattle.quadratic.specs.Quadratic.{long}
use Rattle.quadratic.proofs.long.Goals as goal

pub returns-then-lower-n : goal.returns-then-lower-n
unfolding long
returns-then-lower-n c = search tests depth 12

pub returns-then-upper-n : goal.returns-then-upper-n
unfolding long
returns-then-upper-n c = search tests depth 12

pub returns-then-row_lower-r : goal.returns-then-row_lower-r
unfolding long
returns-then-row_lower-r c = search tests depth 12

pub returns-then-row_upper-r : goal.returns-then-row_upper-r
unfolding long
returns-then-row_upper-r c = search tests depth 12

pub returns-then-at-n : goal.returns-then-at-n
unfolding long
returns-then-at-n c = search tests depth 12

pub returns-then-slopes-n : goal.returns-then-slopes-n
unfolding long
returns-then-slopes-n c = search tests depth 12

pub returns-then-start-n : goal.returns-then-start-n
unfolding long
returns-then-start-n c = search tests depth 12

pub returns-then-x-n : goal.returns-then-x-n
unfolding long
returns-then-x-n c = search tests depth 12

pub returns : goal.returns
unfolding long
returns c = search tests depth 12
