use Rattle.update.specs.Update.{closed_entry}
use Rattle.update.proofs.closed_entry.Goals as goal

pub returns : goal.returns
unfolding closed_entry
returns c = rw (← c.staying-a.ensures.value, ← c.staying-b.ensures.value) c.get.ensures
