use Rattle.std.specs.Prelude.{◌≡◌, pos, length}
use Rattle.std.proofs.Common.{rules}
use Rattle.block.specs.Plan.{time}
use Rattle.plan_check.specs.Check.{between, times_in}
use Rattle.plan_check.specs.Laws.{all_by}
use Rattle.plan_check.proofs.times_in.Goals as goal

pub returns : goal.returns
unfolding times_in
returns c = all_by (length c.args.times.now) (λ i. between (pos 0) (pos 262144) (time c.args.times.now i)) (search rules)
