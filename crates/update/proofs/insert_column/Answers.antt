use Rattle.folds.specs.Kit.{sym, arith}
use lib.Seq.{length-take-le}
use Rattle.update.specs.Same.{join-copy}
use Rattle.update.proofs.insert_column.Goals as goal

pub slice_bounds-join-end : goal.slice_bounds-join-end
slice_bounds-join-end c = sym (length-take-le _ _ (omega arith))

pub join-requires : goal.join-requires
join-requires c =
    omega (arith, c.requires, slice_bounds-join-end c)

pub returns : goal.returns
returns c =
    rw (c.join.ensures, c.copy.ensures)
    (join-copy c.args.n c.args.p c.args.q.now c.args.l.now c.args.room.now c.requires.1)
