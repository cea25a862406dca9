use borrow.Author.Tests.{leb-true, leb-false}
use Rattle.folds.specs.Kit.{refl, sym, ◌∙◌, ◌+◌, ◌≤◌}
use Rattle.answer.specs.File.{file_size}
use Rattle.service.specs.Code.{short-slice, engine-solved, engine_refuses}
use Rattle.service.proofs.place_block.Goals as goal
use Rattle.service.proofs.place_block.Goals.{Else-not-has_room}

-- where the slice has room for the file
room : (c : Else-not-has_room) → let a = c.args in file_size a.b.words (a.b.anchors + a.b.spans + 1) ≤ a.room
room c = leb-true _ _ (sym c.has_room.ensures ∙ c.if-not-has_room.false)

pub returns-then-not-has_room : goal.returns-then-not-has_room
returns-then-not-has_room c = short-slice c.requires.sound refl _ (leb-false _ _ (sym c.has_room.ensures ∙ c.if-not-has_room.true))

pub returns-in-Ok : goal.returns-in-Ok
returns-in-Ok c = engine_refuses c.requires.sound refl (room (goal.at.returns-in-Ok c).Else-not-has_room) c.solve-s.ensures _ c.in-Ok.ensures

pub returns : goal.returns
returns c =
    engine-solved c.requires.sound refl (room (goal.at.returns c).Else-not-has_room) c.solve-s.ensures c.in_default.ensures.1 c.written.ensures
