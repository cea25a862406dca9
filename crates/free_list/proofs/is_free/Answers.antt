use Rattle.free_list.specs.FreeList.{is_free}
use Rattle.free_list.proofs.is_free.Goals as goal

pub returns-in-Free : goal.returns-in-Free
unfolding is_free
returns-in-Free c = rw c.in-Free.is

pub returns-in_default : goal.returns-in_default
unfolding is_free
returns-in_default c = rw c.in_default.is
