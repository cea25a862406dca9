use Rattle.folds.specs.Tab.{over-whole}
use Rattle.vector.specs.Laws.{length-sub}
use Rattle.matrix.specs.Laws.{length-mul, length-tr_mul}
use Rattle.constraints.specs.Laws.{less_from}
use Rattle.constraints.proofs.less_range.Goals as goal

pub returns : goal.returns
returns c =
    let a = c.args in
    let r = c.requires in
    less_from a.n a.rank a.range.now a.d a.null.now (over-whole _ _ (length-tr_mul _ _ _ _ _) r.2 c.tr_mul.ensures)
    (over-whole _ _ (length-mul _ _ _ _ _) r.3 c.mul.ensures) (over-whole _ _ (length-sub _ _ _) r.0 c.sub_from.ensures)
