-- Known cases, computed from the lists: 5 joins 0, 1, 2, 3, 4; 7 joins 0, 1, 2, 3 while 4 leaves.
use Rattle.std.specs.Prelude.{◌≡◌, refl, true, false, List, [], ◌∷◌, ℕ, length}
use Rattle.folds.specs.Fold.{fold, some, pick}
use Rattle.folds.specs.Marks.{contains}
use Rattle.variable_set.specs.Joining.{joining, afresh}

abbrev pub held_five : List ℕ
held_five = 0 ∷ 1 ∷ 2 ∷ 3 ∷ 4 ∷ []

abbrev pub listed_six : List ℕ
listed_six = 0 ∷ 1 ∷ 2 ∷ 3 ∷ 4 ∷ 5 ∷ []

abbrev pub listed_five : List ℕ
listed_five = 0 ∷ 1 ∷ 2 ∷ 3 ∷ 7 ∷ []

-- document 01's P8: six listed, one joining: update; five listed: afresh
pub P8 : (afresh (joining held_five listed_six) (length listed_six) ≡ false) × (afresh (joining held_five listed_five) (length listed_five) ≡ true)
unfolding afresh joining contains fold some pick
P8 = (refl, refl)
