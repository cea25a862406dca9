use Rattle.folds.specs.Kit.{◌∙◌, arith}
use Rattle.folds.specs.Tab.{over-whole}
use Rattle.vector.specs.Laws.{length-add_scaled}
use Rattle.columns.specs.Laws.{length-column}
use Rattle.reduced.specs.Reduced.{range_one}
use Rattle.reduced.proofs.range_one.Goals as goal

pub dot-requires : goal.dot-requires
unfolding range_one
dot-requires c = (rw (c.column-w.ensures, length-column) (omega arith), omega arith)

pub add_scaled-requires : goal.add_scaled-requires
unfolding range_one
add_scaled-requires c = (omega arith, rw (c.column-w.ensures, length-column) (omega arith))

pub returns : goal.returns
unfolding range_one
returns c =
    let p = c.requires in
    over-whole _ _ (length-add_scaled _ _ _ _) p.4 c.add_scaled.ensures ∙ rw (c.dot.ensures, c.column-w.ensures)
