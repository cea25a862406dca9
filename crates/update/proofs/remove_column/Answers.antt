use Rattle.folds.specs.Kit.{◌≡◌, sym, ◌+◌, ◌-◌, ◌≤◌, arith}
use Rattle.folds.specs.Cell.{area}
use lib.Seq.{length-take-le}
use Rattle.update.specs.Same.{leave-copy}
use Rattle.update.proofs.remove_column.Goals as goal

pub slice_bounds-leave-end : goal.slice_bounds-leave-end
slice_bounds-leave-end c = sym (length-take-le _ _ (omega arith))

pub leave-requires : goal.leave-requires
leave-requires c =
    let z : c.args.k - 1 + 1 ≡ c.args.k = omega arith in
    let l : c.args.k - 1 ≤ c.args.k = omega arith in (
      rw z (omega arith),
      omega arith,
      omega arith,
      omega (arith, area l l),
      omega (arith, slice_bounds-leave-end c),
    )

pub returns : goal.returns
returns c =
    rw (c.leave.ensures, c.copy.ensures)
    (leave-copy c.args.k c.args.p c.args.l.now c.args.room.now c.requires.0)
