use Rattle.folds.specs.Kit.{pick}
use Rattle.leaving.specs.Held.{leave_one}
use Rattle.leaving.proofs.leave_one.Goals as goal

pub returns-then-wanted-i : goal.returns-then-wanted-i
unfolding leave_one pick
returns-then-wanted-i c = rw (c.if-s-i.true, c.if-wanted-i.true)

pub left-requires : goal.left-requires
unfolding leave_one pick
left-requires c = (
  c.requires.0,
  c.requires.1,
  c.if-s-i.true,
)

pub returns-then-s-i : goal.returns-then-s-i
unfolding leave_one pick
returns-then-s-i c =
    rw (
      c.if-s-i.true,
      c.if-wanted-i.false,
    ) c.left.ensures

pub returns : goal.returns
unfolding leave_one pick
returns c = rw c.if-s-i.false
