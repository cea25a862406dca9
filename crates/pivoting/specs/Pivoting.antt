-- qp.rs, `Constraints::new`: E = YT, with Y an orthonormal basis for E's range, by Gram-Schmidt with column pivoting and reorthogonalization.
-- E is n by m, p = min(n, m). Y has n rows and p columns, of which the first `rank` count; T has p rows, of which the first `rank` count, and m
-- columns.
use Rattle.std.specs.Prelude.{ℕ, ◌*◌, ◌≤◌, Bool, true, false, List, [], ◌∷◌, ◌++◌, set, take, Float, Option, Some, None}
use Rattle.std.specs.Float.Ieee.{le}
use Rattle.folds.specs.Fold.{fold, walk, tab, pick, Out, out, ended}
use Rattle.folds.specs.Part.{Two, two}
use Rattle.arith.specs.Float.{fadd, fsub, fmul, f0, at}
use Rattle.reductions.specs.Reductions.{dot}
use Rattle.vector.specs.Vector.{divided, copy, filled, Below}
use Rattle.columns.specs.Columns.{cell, put, put_column, column}
use Rattle.pivot_choice.specs.PivotChoice.{tolerance, remains, largest_column}
use Rattle.pivoting.specs.declared.Pivots.{Pivots}

-- ---- y is taken out of the remaining columns
-- `left.column(l) - &y * t`, set as column l
unfoldable pub sub_column : (n l : ℕ) (y : List Float) (t : Float) (left : List Float) → List Float
sub_column n l y t left = put_column n n l (λ i. fsub (cell left n i l) (fmul (at y i) t)) left

-- `let t = y.dot(&left.column(l)); coefficients[(row, l)] += t; left.set_column(l, &(left.column(l) - &y * t))`
unfoldable pub remove_part : (n p row : ℕ) (y : List Float) (l : ℕ) → Two (List Float) (List Float) → Two (List Float) (List Float)
remove_part n p row y l (two left coefficients) =
    let t = dot n y (column n left l) in two (sub_column n l y t left) (put coefficients p row l (fadd (cell coefficients p row l) t))

-- twice, so that rounding in the first pass doesn't leave y in the column
unfoldable pub remove_one : (n p row : ℕ) (y : List Float) (remaining : List Bool) (l : ℕ) →
    Two (List Float) (List Float) → Two (List Float) (List Float)
remove_one n p row y remaining l s = pick (remains remaining l) (fold 2 (λ _. remove_part n p row y l) s) s

unfoldable pub remove_all : (n m p row : ℕ) (y : List Float) (remaining : List Bool) → Two (List Float) (List Float) → Two (List Float) (List Float)
remove_all n m p row y remaining s = fold m (remove_one n p row y remaining) s

-- ---- the loop
-- what it changes: what is left of E, T, Y, the columns taken, in order, and a mark for each column that remains
pub data Pivoting : Type 0 where
  pivoting : (left coefficients basis : List Float) (pivots : List ℕ) (remaining : List Bool) → Pivoting

-- `basis.push(y)`
unfoldable pub with_basis : (n row : ℕ) (y basis : List Float) (pivots : List ℕ) (remaining : List Bool) → Two (List Float) (List Float) → Pivoting
with_basis n row y basis pivots remaining (two left coefficients) = pivoting left coefficients (put_column n n row (at y) basis) pivots remaining

-- column j, of norm `norm`, is taken: `remaining.remove(position)`, `pivots.push(j)`
unfoldable pub taken : (n m p row j : ℕ) (norm : Float) → Pivoting → Pivoting
taken n m p row j norm (pivoting left coefficients basis pivots remaining) =
    let y = divided n (column n left j) norm in
    let rest = set remaining j false in
    with_basis n row y basis (pivots ++ (j ∷ [])) rest (remove_all n m p row y rest (two left (put coefficients p row j norm)))

-- a turn: it stops where no column remains, or the largest norm is rounding
unfoldable pub choose : (n m p : ℕ) (tol : Float) (row : ℕ) → Option (ℕ × Float) → Pivoting → Out Pivoting
choose n m p tol row None s = out false s
choose n m p tol row (Some c) s = pick (le c.1 tol) (out false s) (out true (taken n m p row c.0 c.1 s))

unfoldable pub pivot_step : (n m p : ℕ) (tol : Float) (row : ℕ) → Pivoting → Out Pivoting
pivot_step n m p tol row (pivoting left coefficients basis pivots remaining) =
    choose n m p tol row (largest_column n m left remaining) (pivoting left coefficients basis pivots remaining)

-- `while basis.len() < n`: at most min(n, m) turns, after which no column remains or the basis is full
unfoldable pub pivoted : (n m p : ℕ) (tol : Float) → Pivoting → Pivoting
pivoted n m p tol s = ended (walk p (pivot_step n m p tol) s)

-- the whole, from E; no column is taken, and every one remains
unfoldable pub factored : (n m p : ℕ) (e : List Float) → Pivoting
factored n m p e =
    pivoted n m p (tolerance n m e) (pivoting (copy (n * m) e) (filled (p * m) f0) (filled (n * p) f0) [] (tab m (λ _. true)))

-- what counts of the record that the code keeps
unfoldable pub state_of : (m : ℕ) (left coefficients basis : List Float) → Pivots → Pivoting
state_of m left coefficients basis r = pivoting left coefficients basis (take r.rank r.column) (take m r.remaining)

-- the columns taken are at most p, each one of E's m
pub record Taken (p m : ℕ) (r : Pivots) : Type 0 where
  pub few : r.rank ≤ p
  pub columns : Below r.rank r.column m
