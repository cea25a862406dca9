use Rattle.rotation.proofs.turn_pair.Goals as goal

pub returns : goal.returns
returns c = rw (c.put-2.ensures, c.put.ensures, c.get-y.ensures, c.get-x.ensures)
