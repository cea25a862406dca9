-- qp.rs, a pass of `solve_piecewise_in_units`: the problem in the free variables. Q is n by n, E is n by m; `solved` are the free variables below
-- `originals`, `slacks` the free ones from there on.
use Rattle.std.specs.Prelude.{ℕ, ◌*◌, ◌≤◌, List, Float, length, take}
use Rattle.sizes.specs.Sizes as Sizes
use Rattle.vector.specs.Vector.{Below, select}
use Rattle.matrix.specs.Matrix.{select_rows, select_columns}
use Rattle.slack_rows.specs.SlackRows.{kept_columns, step_noise}
use Rattle.iterate.specs.Problem.{Problem, problem, first_slack_column}
use Rattle.right_side.specs.RightSide.{linear, gradient, residuals}
use Rattle.free_problem.specs.declared.Free.{Free}

-- `q.select_rows(solved).select_columns(solved)`, `e.select_rows(solved).select_columns(&kept)`; a is n by m
unfoldable pub submatrix : (n m : ℕ) (a : List Float) (rows columns : List ℕ) → List Float
submatrix n m a rows columns = let k = length rows in select_columns k (select_rows n m a k rows) (length columns) columns

-- ---- the whole
pub record Gathered : Type 0 where
  pub c : List Float
  pub gradient : List Float
  pub residuals : List Float
  pub kept : List ℕ
  pub residual : List Float
  pub noise : Float
  pub q_free : List Float
  pub e_free : List Float

-- what counts of what the code leaves, with k variables solved and m columns
unfoldable pub gathered_of : (k m : ℕ) → Free → (q_free e_free : List Float) → Gathered
gathered_of k m r q_free e_free = record {
  c = take k r.c;
  gradient = take k r.gradient;
  residuals = take m r.residuals;
  kept = take r.columns r.kept;
  residual = take r.columns r.residual;
  noise = r.noise;
  q_free = take (k * k) q_free;
  e_free = take (k * r.columns) e_free;
}

-- from `let kept = kept_columns(..)` to `let noise = step_noise(&q_rows, &variables, &c_free)`
unfoldable pub gather : Problem → (x : List Float) (solved slacks : List ℕ) (slope : List Float) → Gathered
gather (problem originals n m q c e b) x solved slacks slope =
    let k = length solved in
    let columns = kept_columns e n m solved slacks originals (first_slack_column originals n m) in
    let q_rows = select_rows n n q k solved in
    let c_free = linear c solved slope in
    let left = residuals n m e b x in record {
      c = c_free;
      gradient = gradient k n q_rows c_free x;
      residuals = left;
      kept = columns;
      residual = select (length columns) left columns;
      noise = step_noise q_rows k n x originals c_free;
      q_free = submatrix n n q solved solved;
      e_free = submatrix n m e solved columns;
    }

-- what the solve and the step may count on: the columns kept are among the m
pub record Lists (k m : ℕ) (r : Free) : Type 0 where
  pub few : k ≤ Sizes.originals
  pub columns : m ≤ Sizes.columns
  pub kept_few : r.columns ≤ m
  pub kept_below : Below r.columns (take r.columns r.kept) m
