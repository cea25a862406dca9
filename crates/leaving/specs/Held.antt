-- `leaving` with the held set as a mark for each of the o originals while it changes: the list is the marked ones in rising order, so a variable's
-- position is the number of marks below it. `Lists.antt` has that this is `Leaving.leaving`.
use Rattle.std.specs.Prelude.{ℕ, ◌-◌, Bool, false, List, set, Float}
use Rattle.folds.specs.Fold.{fold, pick}
use Rattle.folds.specs.Marks.{marked, place}
use Rattle.update.specs.Update.{remove_column}

-- the marks, and the factor of the block on the marked ones
pub record Held : Type 0 where
  pub marks : List Bool
  pub factor : List Float

abbrev pub held : (s : List Bool) (l : List Float) → Held
held s l = record { marks = s; factor = l }

-- ---- leaving, the last first
unfoldable pub left : (o i : ℕ) → Held → Held
left o i s = held (set s.marks i false) (remove_column (place s.marks o) (place s.marks i) s.factor)

unfoldable pub leave_one : (o : ℕ) (wanted : List Bool) (i : ℕ) → Held → Held
leave_one o wanted i s = pick (marked s.marks i) (pick (marked wanted i) s (left o i s)) s

unfoldable pub leaving : (o : ℕ) (wanted : List Bool) → Held → Held
leaving o wanted s = fold o (λ t. leave_one o wanted (o - 1 - t)) s
