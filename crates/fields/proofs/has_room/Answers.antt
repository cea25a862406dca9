use mathlib.Core.Path.{refl}
use Rattle.folds.specs.Fold.{pick}
use Rattle.format.specs.Laws.{choices}
use Rattle.format.specs.Read.{has_room}
use Rattle.fields.proofs.has_room.Goals as goal

pub returns-in-1 : goal.returns-in-1
unfolding has_room pick
returns-in-1 c = rw c.in-1.is refl

pub returns-in-2 : goal.returns-in-2
unfolding has_room pick
returns-in-2 c = rw c.in-2.is refl

pub returns-in-3 : goal.returns-in-3
unfolding has_room pick
returns-in-3 c = rw c.in-3.is refl

pub returns-in-4 : goal.returns-in-4
unfolding has_room pick
returns-in-4 c = rw c.in-4.is refl

pub returns-in_default : goal.returns-in_default
returns-in_default c = search choices depth 10
