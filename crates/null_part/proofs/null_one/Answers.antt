use Rattle.folds.specs.Kit.{sym, ◌∙◌, arith}
use lib.Seq.{length-take-le}
use Rattle.folds.specs.Tab.{over-whole}
use Rattle.vector.specs.Laws.{length-add_scaled}
use Rattle.columns.specs.Laws.{length-column}
use Rattle.null_part.specs.NullPart.{null_one}
use Rattle.null_part.proofs.null_one.Goals as goal

pub slice_bounds-dot-end : goal.slice_bounds-dot-end
slice_bounds-dot-end c = sym (length-take-le _ _ (omega arith))

pub slice_bounds-add_scaled-end : goal.slice_bounds-add_scaled-end
slice_bounds-add_scaled-end c = sym (length-take-le _ _ (omega arith))

pub mul_vec-v-requires : goal.mul_vec-v-requires
unfolding null_one
mul_vec-v-requires c = (omega arith, omega arith, rw (c.column-w.ensures, length-column) (omega arith))

pub dot-along-requires : goal.dot-along-requires
unfolding null_one
dot-along-requires c = (omega (arith, slice_bounds-dot-end c), omega arith)

pub add_scaled-requires : goal.add_scaled-requires
unfolding null_one
add_scaled-requires c = (omega arith, omega (arith, slice_bounds-add_scaled-end c))

pub returns : goal.returns
unfolding null_one
returns c =
    let p = c.requires in
    over-whole _ _ (length-add_scaled _ _ _ _) p.5 c.add_scaled.ensures
    ∙ rw (c.dot-along.ensures, c.mul_vec-v.ensures, c.column-w.ensures)
