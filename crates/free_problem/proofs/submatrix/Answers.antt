use Rattle.folds.specs.Kit.{◌≡◌, ◌*◌, ◌∙◌, arith, length}
use lib.ListN.{take}
use Rattle.folds.specs.Tab.{taken-over}
use Rattle.matrix.specs.Matrix.{select_rows}
use Rattle.matrix.specs.Laws.{length-select_rows, length-select_columns}
use Rattle.free_problem.specs.FreeProblem.{submatrix}
use Rattle.free_problem.proofs.submatrix.Goals as goal
use Rattle.free_problem.proofs.submatrix.Goals.{After-select_rows}

-- the part of room that is lent is the rows
lent : (c : After-select_rows) → let k = length c.args.rows.now in
    take (k * c.args.m) c.select_rows.new.b ≡ select_rows c.args.n c.args.m c.args.a.now k c.args.rows.now
lent c = taken-over _ _ (length-select_rows _ _ _ _ _) c.select_rows.ensures

pub select_columns-requires : goal.select_columns-requires
select_columns-requires c =
    let e = lent (goal.at.select_columns-requires c).After-select_rows in
    let p = c.requires in
    (rw (e, length-select_rows c.args.n c.args.m c.args.a.now (length c.args.rows.now) c.args.rows.now) (omega arith), omega arith, p.2, omega (arith, p.4))

pub returns : goal.returns
unfolding submatrix
returns c =
    let r = (goal.at.returns c).After-select_rows in
    record {
      room_after = lent r;
      y_after = taken-over _ _ (length-select_columns _ _ _ _) c.select_columns.ensures ∙ rw (lent r);
    }
