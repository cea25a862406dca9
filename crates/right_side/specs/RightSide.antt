-- qp.rs, a pass of `solve_piecewise_in_units`: the right side of the problem in the free variables, for the step from x.
use Rattle.std.specs.Prelude.{ℕ, List, Float, length}
use Rattle.vector.specs.Vector.{sub, select}
use Rattle.matrix.specs.Matrix.{mul_vec, tr_mul_vec}

-- `c.select_rows(solved) - slope`
unfoldable pub linear : (c : List Float) (solved : List ℕ) (slope : List Float) → List Float
linear c solved slope = let k = length solved in sub k (select k c solved) slope

-- `&c_free - &q_rows * &x`, with k rows of n entries
unfoldable pub gradient : (k n : ℕ) (q_rows c_free x : List Float) → List Float
gradient k n q_rows c_free x = sub k c_free (mul_vec k n q_rows x)

-- `b - e.transpose() * &x`
unfoldable pub residuals : (n m : ℕ) (e b x : List Float) → List Float
residuals n m e b x = sub m b (tr_mul_vec n m e x)
