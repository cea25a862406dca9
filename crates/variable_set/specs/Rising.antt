-- A set of variables as a list.
use Rattle.std.specs.Prelude.{ℕ, ◌≡◌, List}
use Rattle.folds.specs.Chosen.{chosen}
use Rattle.folds.specs.Marks.{contains}

-- a list of variables below o, in rising order: those that it contains
pub record Rising (o : ℕ) (list : List ℕ) : Type 0 where
  pub is_chosen : chosen o (contains list) ≡ list
