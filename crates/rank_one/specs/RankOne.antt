-- Document 01's rank-one step, sign s and vector v, on the rows from p on of the factor l of n variables; v is used up. The factor is the first n * n
-- elements of its list, column after column; only its lower triangle counts, and what lies past it keeps its value.
use Rattle.std.specs.Prelude.{ℕ, ◌+◌, List, set, Float}
use Rattle.folds.specs.Fold.{span}
use Rattle.folds.specs.Part.{Two, two}
use Rattle.arith.specs.Float.{fadd, fsub, fmul, fdiv, at, sqrt}
use Rattle.columns.specs.Columns.{cell, put}

-- "for each i below j L_ij = (L_ij + s·t·v_i)/c, then v_i = c·v_i − t·L_ij with the new L_ij"
unfoldable pub rank_row : (n j : ℕ) (s t c : Float) (i : ℕ) → Two (List Float) (List Float) → Two (List Float) (List Float)
rank_row n j s t c i (two l v) =
    let x = fdiv (fadd (cell l n i j) (fmul (fmul s t) (at v i))) c in two (put l n i j x) (set v i (fsub (fmul c (at v i)) (fmul t x)))

unfoldable pub rank_rows : (n j : ℕ) (s t c : Float) → Two (List Float) (List Float) → Two (List Float) (List Float)
rank_rows n j s t c x = span (j + 1) n (rank_row n j s t c) x

-- "r = root(d·d + s·v_j·v_j) with d the diagonal entry"
unfoldable pub new_diagonal : (n j : ℕ) (s : Float) (l v : List Float) → Float
new_diagonal n j s l v = sqrt (fadd (fmul (cell l n j j) (cell l n j j)) (fmul (fmul s (at v j)) (at v j)))

-- column j: "c = r/d, t = v_j/d; the diagonal becomes r", and the rows below change
unfoldable pub rank_column : (n : ℕ) (s : Float) (j : ℕ) → Two (List Float) (List Float) → Two (List Float) (List Float)
rank_column n s j (two l v) =
    let d = cell l n j j in let r = new_diagonal n j s l v in rank_rows n j s (fdiv (at v j) d) (fdiv r d) (two (put l n j j r) v)

unfoldable pub rank_one : (n p : ℕ) (s : Float) → Two (List Float) (List Float) → Two (List Float) (List Float)
rank_one n p s x = span p n (rank_column n s) x

abbrev pub factor_of : Two (List Float) (List Float) → List Float
factor_of (two l v) = l
