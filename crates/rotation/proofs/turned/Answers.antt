use Rattle.rotation.specs.Rotation.{turned}
use Rattle.rotation.proofs.turned.Goals as goal

pub returns : goal.returns
unfolding turned
returns c = rw (c.put-2.ensures, c.put.ensures, c.turn_rows.ensures, c.turn_columns.ensures)
