use Rattle.folds.specs.Kit.{◌≤◌, arith}
use Rattle.folds.specs.Cell.{area}
use Rattle.folds.specs.Marks.{place-held, place-few}
use Rattle.leaving.specs.Held.{left}
use Rattle.leaving.proofs.left.Goals as goal

pub remove_column-requires : goal.remove_column-requires
remove_column-requires c =
    let few : c.place-k.result ≤ c.args.originals = rw c.place-k.ensures
    (place-few c.args.s c.args.originals) in
    omega (
      arith,
      c.requires.0.few,
      c.requires.0.l_holds,
      c.requires.0.room_holds,
      c.place-p.ensures,
      c.place-k.ensures,
      place-held c.args.s c.args.i c.args.originals c.requires.1 c.requires.2,
      area few few,
    )

pub returns : goal.returns
unfolding left
returns c =
    rw (
      c.remove_column.ensures,
      c.place-p.ensures,
      c.place-k.ensures,
    )
