-- eigen.rs, `rotate`: the Jacobi rotation that zeroes the entry p, q of a symmetric matrix A, n by n.
use Rattle.std.specs.Prelude.{ℕ, List, Float}
use Rattle.std.specs.Float.Ieee.{eq}
use Rattle.folds.specs.Fold.{fold, pick}
use Rattle.folds.specs.Part.{Two, two}
use Rattle.arith.specs.Float.{fadd, fsub, fmul, f0}
use Rattle.columns.specs.Columns.{cell, put}
use Rattle.angle.specs.Angle.{angle}
use Rattle.angle.specs.declared.Turn.{Turn}

-- the entries x at row i, column j and y at row k, column l become c x - s y and s x + c y
abbrev pub turn_pair : (n i j k l : ℕ) → Turn → (a : List Float) → List Float
turn_pair n i j k l t a =
    put (put a n i j (fsub (fmul t.c (cell a n i j)) (fmul t.s (cell a n k l)))) n k l
    (fadd (fmul t.s (cell a n i j)) (fmul t.c (cell a n k l)))

-- `a[(k, p)] = c * akp - s * akq`, `a[(k, q)] = s * akp + c * akq`
unfoldable pub turn_in_row : (n p q : ℕ) → Turn → (k : ℕ) (a : List Float) → List Float
turn_in_row n p q t k a = turn_pair n k p k q t a

-- `a[(p, k)] = c * apk - s * aqk`, `a[(q, k)] = s * apk + c * aqk`
unfoldable pub turn_in_column : (n p q : ℕ) → Turn → (k : ℕ) (a : List Float) → List Float
turn_in_column n p q t k a = turn_pair n p k q k t a

unfoldable pub turn_columns : (n p q : ℕ) → Turn → (a : List Float) → List Float
turn_columns n p q t a = fold n (turn_in_row n p q t) a

unfoldable pub turn_rows : (n p q : ℕ) → Turn → (a : List Float) → List Float
turn_rows n p q t a = fold n (turn_in_column n p q t) a

-- A ← JᵀAJ, then `a[(p, q)] = 0.0`, `a[(q, p)] = 0.0`
unfoldable pub turned : (n p q : ℕ) → Turn → (a : List Float) → List Float
turned n p q t a = put (put (turn_rows n p q t (turn_columns n p q t a)) n p q f0) n q p f0

-- A and V
abbrev pub State : Type 0
State = Two (List Float) (List Float)

-- A ← JᵀAJ and V ← VJ; `if apq == 0.0 { return; }`
unfoldable pub rotate : (n p q : ℕ) → State → State
rotate n p q (two a v) =
    pick (eq (cell a n p q) f0) (two a v) (two (turned n p q (angle n p q a) a) (turn_columns n p q (angle n p q a) v))
