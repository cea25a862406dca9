use Rattle.folds.specs.Kit.{pick}
use borrow.Author.Tests.{lt-ltb, le-ltb}
use Rattle.update.specs.Update.{removed_entry}
use Rattle.update.proofs.removed_entry.Goals as goal

pub returns-then-i-p : goal.returns-then-i-p
unfolding removed_entry pick
returns-then-i-p c = rw (lt-ltb _ _ c.if-i-p.true)

pub returns : goal.returns
unfolding removed_entry pick
returns c = rw (le-ltb _ _ c.if-i-p.false) c.get.ensures
