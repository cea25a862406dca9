use Rattle.columns.specs.Laws.{matrix-kit}
use Rattle.slacks.specs.Slacks.{with_slacks_e}
use Rattle.slacks.proofs.with_slacks_e.Goals as goal

pub loop-j-init : goal.loop-j-init
unfolding with_slacks_e
loop-j-init c = search matrix-kit

pub loop-j-preserved : goal.loop-j-preserved
unfolding with_slacks_e
loop-j-preserved c = search matrix-kit

pub returns : goal.returns
unfolding with_slacks_e
returns c = search matrix-kit
