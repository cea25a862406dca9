-- `updated` with the held set as a mark for each of the o originals while it changes: the list is the marked ones in rising order, so a variable's
-- position is the number of marks below it. `Lists.antt` has that this is `Factor.updated`.
use Rattle.std.specs.Prelude.{ℕ, Bool, true, false, List, length, set, Float}
use Rattle.folds.specs.Fold.{walk, pick, Out, out}
use Rattle.folds.specs.Marks.{marked, marks, rising, place}
use Rattle.sizes.specs.Sizes as Sizes
use Rattle.cholesky.specs.Cholesky.{positive_definite}
use Rattle.update.specs.Update.{insert_column}
use Rattle.variable_set.specs.Joining.{afresh}
use Rattle.variable_set.specs.Marked.{joining}
use Rattle.leaving.specs.Held.{Held, held, leaving}
use Rattle.factor_update.specs.Factor.{column_on}

-- ---- joining, the first first, until a pivot fails
unfoldable pub joined : (q : List Float) (n o i : ℕ) → Held → Held
joined q n o i s =
    let next = set s.marks i true in
    held next (insert_column (place s.marks o) (place s.marks i) (column_on q n (rising o next) i) s.factor)

unfoldable pub tested : (o : ℕ) → Held → Out Held
tested o s = out (positive_definite s.factor (place s.marks o)) s

unfoldable pub join_one : (q : List Float) (n o : ℕ) (wanted : List Bool) (i : ℕ) → Held → Out Held
join_one q n o wanted i s = pick (marked wanted i) (pick (marked s.marks i) (out true s) (tested o (joined q n o i s))) (out true s)

unfoldable pub joins : (q : List Float) (n o : ℕ) (wanted : List Bool) → Held → Out Held
joins q n o wanted s = walk o (join_one q n o wanted) s

-- ---- the whole
unfoldable pub factor_of : Out Held → Out (List Float)
factor_of (out ok s) = out ok s.factor

unfoldable pub updated : (q : List Float) (n o : ℕ) (from : List Bool) (l : List Float) (indices : List ℕ) → Out (List Float)
updated q n o from l indices =
    let wanted = marks Sizes.originals indices in
    pick (afresh (joining from indices) (length indices)) (out false l) (factor_of (joins q n o wanted (leaving o wanted (held from l))))
