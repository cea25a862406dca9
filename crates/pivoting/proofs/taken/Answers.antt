use Rattle.folds.specs.Kit.{◌≡◌, arith, length, length-set, rules, sym, ap, ◌∙◌}
use lib.Seq.{length-take-le}
use Rattle.sizes.specs.Sizes as Sizes
use Rattle.columns.specs.Laws.{length-column}
use Rattle.pivoting.specs.Pivoting.{state_of, taken, with_basis}
use Rattle.pivoting.proofs.taken.Goals as goal
use Rattle.pivoting.proofs.taken.Goals.{Start, After-divided-y}

y-length : (c : After-divided-y) → length c.divided-y.result ≡ Sizes.variables
y-length c = search rules

marks : (c : Start) → length c.args.pivots.now.remaining ≡ Sizes.columns
marks c = search rules

pub slice_bounds-with_basis-end-2 : goal.slice_bounds-with_basis-end-2
slice_bounds-with_basis-end-2 c =
    sym (ap length c.add_pivot.ensures.2 ∙ length-set _ _ _ ∙ length-take-le _ _ (omega (arith, c.requires, marks (goal.at.slice_bounds-with_basis-end-2 c).Start)))

pub returns : goal.returns
unfolding state_of taken with_basis
returns c =
    let next = c.add_pivot.ensures in record {
      result_after = rw (
        next.0,
        next.1,
        ← next.2,
        c.requires.8,
        ← c.column.ensures,
        ← c.divided-y.ensures,
        ← c.put.ensures,
        ← c.with_basis.ensures.coefficients_after,
        ← c.with_basis.ensures.basis_after,
      );
      rank_value = next.0;
    }

pub divided-y-requires : goal.divided-y-requires
divided-y-requires c = (omega arith, simp (c.column.ensures, length-column) (omega arith))
