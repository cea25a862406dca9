-- qp.rs, `Constraints`: E = YT, with Y an orthonormal basis for E's range, and Z one for the null space of Eᵀ, which completes Y.
-- E is n by m, p = min(n, m). Y is n by rank, Z is n by n - rank, and T is p by m; its first `rank` rows count.
use Rattle.std.specs.Prelude.{ℕ, ◌+◌, ◌-◌, ◌*◌, min, Bool, false, List, eqb, length, take, Float}
use Rattle.folds.specs.Fold.{fold, tab, tab_m, pick}
use Rattle.folds.specs.Part.{Two, two}
use Rattle.arith.specs.Float.{f0}
use Rattle.vector.specs.Vector.{sub, filled}
use Rattle.columns.specs.Columns.{cell}
use Rattle.matrix.specs.Matrix.{identity, mul, tr_mul, mul_vec, tr_mul_vec}
use Rattle.householder.specs.Householder.{qr, q_tr_mul}
use Rattle.pivoting.specs.Pivoting.{Pivoting, pivoting, factored}
use Rattle.pivoting.specs.declared.Pivots.{Pivots}
use Rattle.substitution.specs.Substitution.{forward, backward}

-- ---- `Constraints::new`: Z, from Y
-- `range.qr().q_tr_mul(&mut q_transpose)`, of the identity
unfoldable pub applied : (n rank : ℕ) → Two (List Float) (List Bool) → List Float
applied n rank (two reflectors made) = q_tr_mul n rank reflectors made n (identity n)

unfoldable pub q_transpose : (n rank : ℕ) (range : List Float) → List Float
q_transpose n rank range = applied n rank (qr n rank (two range (tab rank (λ _. false))))

-- `q_transpose.rows(rank, d).transpose()`, with d = n - rank
unfoldable pub rows_transposed : (n rank d : ℕ) (q : List Float) → List Float
rows_transposed n rank d q = tab_m n d (λ i j. cell q n (rank + j) i)

-- `null -= &range * (range.transpose() * &null)`
unfoldable pub less_range : (n rank d : ℕ) (range null : List Float) → List Float
less_range n rank d range null = sub (n * d) null (mul n rank d range (tr_mul n rank d range null))

-- the last n - rank columns of a full Q, whose first columns span Y's range, less Y's part, twice
unfoldable pub completed : (n rank : ℕ) (range : List Float) → List Float
completed n rank range = fold 2 (λ _. less_range n rank (n - rank) range) (rows_transposed n rank (n - rank) (q_transpose n rank range))

unfoldable pub null_space : (n rank : ℕ) (range : List Float) → List Float
null_space n rank range = pick (eqb rank 0) (identity n) (completed n rank range)

-- ---- `Constraints::new`
-- what counts of its fields; the rank is `pivots.len()`
pub data Constraints : Type 0 where
  constraints : (rank : ℕ) (range null coefficients : List Float) (pivots : List ℕ) → Constraints

unfoldable pub constraints_of : (n m : ℕ) (range null coefficients : List Float) → Pivots → Constraints
constraints_of n m range null coefficients r =
    let rank = r.rank in
    constraints rank (take (n * rank) range) (take (n * (n - rank)) null) (take (min n m * m) coefficients) (take rank r.column)

unfoldable pub with_null : (n : ℕ) → Pivoting → Constraints
with_null n (pivoting left coefficients basis pivots remaining) =
    let rank = length pivots in
    let range = take (n * rank) basis in
    constraints rank range (null_space n rank range) coefficients pivots

unfoldable pub new : (n m : ℕ) (e : List Float) → Constraints
new n m e = with_null n (factored n m (min n m) e)

-- ---- `smallest_feasible`: the smallest x with Eᵀx = b on the pivot columns, x = Yu with Tᵀu = b, by forward substitution
unfoldable pub smallest_feasible : (n m : ℕ) (range coefficients b : List Float) (pivots : List ℕ) (rank : ℕ) → List Float
smallest_feasible n m range coefficients b pivots rank = mul_vec n rank range (forward (min n m) coefficients b pivots rank (filled rank f0))

-- ---- `multipliers`: the λ that best solves Eλ = g, Tλ = Yᵀg on the pivot columns, by back substitution, with zero for dependent columns
unfoldable pub multipliers : (n m : ℕ) (range coefficients g : List Float) (pivots : List ℕ) (rank : ℕ) → List Float
multipliers n m range coefficients g pivots rank =
    backward (min n m) coefficients (tr_mul_vec n rank range g) pivots rank (filled m f0)
