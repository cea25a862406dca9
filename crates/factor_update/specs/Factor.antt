-- qp.rs, `updated`: a Cholesky factor of Q's block on the held variables, changed to the block on the listed ones. Q is n by n; both lists are in
-- rising order, and l holds the factor of k variables in its first k * k elements.
use Rattle.std.specs.Prelude.{ℕ, Bool, true, false, List, eqb, ltb, length, Float}
use Rattle.folds.specs.Fold.{walk, pick, both, Out, out}
use Rattle.folds.specs.Part.{Two, two}
use Rattle.folds.specs.Marks.{insert}
use Rattle.vector.specs.Vector.{select}
use Rattle.columns.specs.Columns.{column}
use Rattle.matrix.specs.Matrix.{index}
use Rattle.cholesky.specs.Cholesky.{positive_definite}
use Rattle.update.specs.Update.{insert_column}
use Rattle.variable_set.specs.Joining.{joining, afresh}
use Rattle.leaving.specs.Leaving.{leaving}

-- ---- joining
-- `held.iter().map(|&j| q[(j, i)])`
unfoldable pub column_on : (q : List Float) (n : ℕ) (held : List ℕ) (i : ℕ) → List Float
column_on q n held i = select (length held) (column n q i) held

-- `held.insert(position, i); let column = ..; cholesky = cholesky.insert_column(position, column); if !positive_definite(&cholesky) { return None; }`
unfoldable pub joined_at : (q : List Float) (n position i : ℕ) → Two (List ℕ) (List Float) → Out (Two (List ℕ) (List Float))
joined_at q n position i (two held l) =
    let next = insert position i held in
    let m = insert_column (length held) position (column_on q n next i) l in out (positive_definite m (length next)) (two next m)

-- `held.get(position) == Some(&i)`
unfoldable pub get_is : (held : List ℕ) (position i : ℕ) → Bool
get_is held position i = both (ltb position (length held)) (eqb (index held position) i)

-- `if held.get(position) != Some(&i)`
unfoldable pub join_at : (q : List Float) (n : ℕ) (indices : List ℕ) (position : ℕ) → Two (List ℕ) (List Float) →
    Out (Two (List ℕ) (List Float))
join_at q n indices position (two held l) =
    let i = index indices position in pick (get_is held position i) (out true (two held l)) (joined_at q n position i (two held l))

-- `for (position, &i) in indices.iter().enumerate()`
unfoldable pub joins : (q : List Float) (n : ℕ) (indices : List ℕ) → Two (List ℕ) (List Float) → Out (Two (List ℕ) (List Float))
joins q n indices s = walk (length indices) (join_at q n indices) s

-- ---- the whole: `out true factor` is `Some`, `out false _` is `None`
unfoldable pub factor_of : Out (Two (List ℕ) (List Float)) → Out (List Float)
factor_of (out ok (two held l)) = out ok l

unfoldable pub updated : (q : List Float) (n : ℕ) (held : List ℕ) (l : List Float) (indices : List ℕ) → Out (List Float)
updated q n held l indices =
    pick (afresh (joining held indices) (length indices)) (out false l) (factor_of (joins q n indices (leaving indices held l)))
