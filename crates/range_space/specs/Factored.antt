-- qp.rs, `solve_factored`: the KKT system of a positive definite K with the Cholesky factor l, by the range-space method.
-- K is n by n, E is n by m; c and x have n elements, b and the multipliers m.
use Rattle.std.specs.Prelude.{ℕ, ◌*◌, Bool, true, false, Option, Some, None, List, Float}
use Rattle.folds.specs.Fold.{tab, pick, Out, out}
use Rattle.reductions.specs.Reductions.{norm}
use Rattle.vector.specs.Vector.{copy, add, sub, div}
use Rattle.columns.specs.Columns.{column}
use Rattle.matrix.specs.Matrix.{mul_vec, tr_mul_vec, tr_mul, columns_divided}
use Rattle.triangular.specs.Triangular.{solve_lower, solve_lower_columns, tr_solve_lower, solve}
use Rattle.scaled.specs.System.{System, system}
use Rattle.scaled.specs.Scaled.{kkt_residual, within_rounding}
use Rattle.factoring.specs.Kept.{definite}

-- ---- the answer: `Some((x, multipliers))` or `None`
pub data FactoredSolution : Type 0 where
  some : (x multipliers : List Float) → FactoredSolution
  none : FactoredSolution

unfoldable pub found_of : Bool → (x multipliers : List Float) → FactoredSolution
found_of found x multipliers = pick found (some x multipliers) none

-- ---- W, its columns at unit length, and the factor of WᵀW
-- `l.solve_lower_triangular(e)`
unfoldable pub whitened : (l : List Float) (n m : ℕ) (e : List Float) → Out (List Float)
whitened l n m e = solve_lower_columns l n m (copy (n * m) e)

-- `w.column_iter().map(|column| column.norm())`; `column /= *length` is `columns_divided`
unfoldable pub lengths : (n m : ℕ) (w : List Float) → List Float
lengths n m w = tab m (λ j. norm n (column n w j))

-- `Cholesky::new(w.transpose() * &w).filter(positive_definite)`
unfoldable pub gram : (n m : ℕ) (w : List Float) → Out (List Float)
gram n m w = definite m (tr_mul n m m w w)

-- ---- the closure `solve`, over l, W with its columns at unit length, their lengths, and the factor g of WᵀW
module _ (l w by g : List Float) (n m : ℕ) where
  -- `gram.solve(&(w.transpose() * &h - b.component_div(&lengths)))`
  unfoldable pub scaled_multipliers : (h b : List Float) → List Float
  scaled_multipliers h b = solve g m (sub m (tr_mul_vec n m w h) (div m b by))

  -- `l.tr_solve_lower_triangular(&(h - &w * &scaled))?`, `scaled.component_div(&lengths)`
  unfoldable pub with_x : (scaled : List Float) → Out (List Float) → FactoredSolution
  with_x scaled (out true x) = some x (div m scaled by)
  with_x scaled (out false x) = none

  -- `l.solve_lower_triangular(c)?`
  unfoldable pub with_h : (b : List Float) → Out (List Float) → FactoredSolution
  with_h b (out true h) = let scaled = scaled_multipliers h b in with_x scaled (tr_solve_lower l n (sub n h (mul_vec n m w scaled)))
  with_h b (out false h) = none

  unfoldable pub solve_once : (c b : List Float) → FactoredSolution
  solve_once c b = with_h b (solve_lower l n (copy n c))

-- ---- one step of iterative refinement
-- `c - k * &x - e * &multipliers`
unfoldable pub left_of_c : (n m : ℕ) (k c e x multipliers : List Float) → List Float
left_of_c n m k c e x multipliers = sub n (sub n c (mul_vec n n k x)) (mul_vec n m e multipliers)

-- `b - e.transpose() * &x`
unfoldable pub left_of_b : (n m : ℕ) (e b x : List Float) → List Float
left_of_b n m e b x = sub m b (tr_mul_vec n m e x)

-- `(x + dx, multipliers + dm)`
unfoldable pub added : (n m : ℕ) (x multipliers : List Float) → FactoredSolution → FactoredSolution
added n m x multipliers (some dx dm) = some (add n x dx) (add m multipliers dm)
added n m x multipliers none = none

module _ (l w by g : List Float) where
  unfoldable pub refine : System → FactoredSolution → FactoredSolution
  refine (system n m k c e b) (some x multipliers) =
      added n m x multipliers (solve_once l w by g n m (left_of_c n m k c e x multipliers) (left_of_b n m e b x))
  refine (system n m k c e b) none = none

  unfoldable pub refined : System → FactoredSolution
  refined (system n m k c e b) = refine (system n m k c e b) (solve_once l w by g n m c b)

-- ---- `within_rounding(kkt_residual((k, c, e, b), &x, &multipliers, noise))?.then_some((x, multipliers))`
unfoldable pub judge : Option Bool → (x multipliers : List Float) → FactoredSolution
judge (Some true) x multipliers = some x multipliers
judge (Some false) x multipliers = none
judge None x multipliers = none

unfoldable pub judged : System → (noise : Float) → FactoredSolution → FactoredSolution
judged s noise (some x multipliers) = judge (within_rounding (kkt_residual s x multipliers noise)) x multipliers
judged s noise none = none

-- ---- the whole
unfoldable pub with_gram : (l w by : List Float) → System → (noise : Float) → Out (List Float) → FactoredSolution
with_gram l w by s noise (out true g) = judged s noise (refined l w by g s)
with_gram l w by s noise (out false g) = none

unfoldable pub with_w : (l : List Float) → System → (noise : Float) → Out (List Float) → FactoredSolution
with_w l (system n m k c e b) noise (out true w) =
    let by = lengths n m w in let unit = columns_divided n m w by in with_gram l unit by (system n m k c e b) noise (gram n m unit)
with_w l (system n m k c e b) noise (out false w) = none

unfoldable pub solve_factored : (l : List Float) → System → (noise : Float) → FactoredSolution
solve_factored l (system n m k c e b) noise = with_w l (system n m k c e b) noise (whitened l n m e)
