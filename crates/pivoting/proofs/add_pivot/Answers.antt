use mathlib.Core.Bool.{false}
use Rattle.folds.specs.Kit.{◌≡◌, arith, length, kit, refl}
use Rattle.sizes.specs.Sizes as Sizes
use native.Mathlib.Numerals.{add-one}
use lib.Seq.{take-suc-set, take-set-lt}
use Rattle.pivoting.proofs.add_pivot.Goals as goal
use Rattle.pivoting.proofs.add_pivot.Goals.{Start}

columns : (c : Start) → length c.args.pivots.now.column ≡ Sizes.columns
columns c = search kit

pub returns : goal.returns
returns c =
    let a = c.args in (
      refl,
      rw (add-one a.row) (take-suc-set a.pivots.now.column a.row a.j (omega (arith, columns (goal.at.returns c).Start))),
      take-set-lt a.m a.pivots.now.remaining a.j false c.requires.1,
    )
