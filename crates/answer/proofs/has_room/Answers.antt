use Rattle.answer.proofs.has_room.Goals as goal

pub returns : goal.returns
returns c = rw c.file_size.ensures
