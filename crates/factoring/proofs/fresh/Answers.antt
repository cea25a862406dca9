use Rattle.folds.specs.Kit.{◌≡◌, sym, ◌*◌, arith, length}
use Rattle.folds.specs.Tab.{taken-over}
use lib.ListN.{take}
use Rattle.matrix.specs.Matrix.{select_rows}
use Rattle.matrix.specs.Laws.{length-select_rows}
use Rattle.factoring.specs.Kept.{submatrix, fresh}
use Rattle.factoring.proofs.fresh.Goals as goal
use Rattle.factoring.proofs.fresh.Goals.{After-select_rows}

-- the part of room that is lent is the rows
lent : (c : After-select_rows) → let k = length c.args.indices.now in
    take (k * c.args.n) c.select_rows.new.b ≡ select_rows c.args.n c.args.n c.args.q.now k c.args.indices.now
lent c = taken-over _ _ (length-select_rows _ _ _ _ _) c.select_rows.ensures

pub slice_bounds-select_columns-end-2 : goal.slice_bounds-select_columns-end-2
slice_bounds-select_columns-end-2 c = rw (lent (goal.at.slice_bounds-select_columns-end-2 c).After-select_rows) (sym (length-select_rows _ _ _ _ _))

pub select_columns-requires : goal.select_columns-requires
select_columns-requires c =
    let p = c.requires in
    let k = length c.args.indices.now in
    let e : k * c.args.n ≡ length (take (k * c.args.n) c.select_rows.new.b) =
    rw (lent (goal.at.select_columns-requires c).After-select_rows) (sym (length-select_rows _ _ _ _ _)) in
    (omega (arith, e), omega arith, p.1, omega (arith, p.2))

pub select_rows-requires : goal.select_rows-requires
unfolding fresh submatrix
select_rows-requires c = let p = c.requires in (p.0, omega arith, p.1, p.3)

pub slice_bounds-select_columns-end : goal.slice_bounds-select_columns-end
unfolding fresh submatrix
slice_bounds-select_columns-end c = omega (arith, c.requires.3)

pub definite-requires : goal.definite-requires
unfolding fresh submatrix
definite-requires c =
    let p = c.requires in
    omega (arith, p.2)

pub returns : goal.returns
unfolding fresh submatrix
returns c =
    rw (
      ← lent (goal.at.returns c).After-select_rows,
      ← c.select_columns.ensures,
    ) c.definite.ensures
