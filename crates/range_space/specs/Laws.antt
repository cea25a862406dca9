-- What a result holds: x and the multipliers where they are found.
use Rattle.std.specs.Prelude.{◌≡◌, refl, Bool, List, Float}
use Rattle.folds.specs.Fold.{pick}
use Rattle.range_space.specs.Factored.{some, none, found_of}

pub found-is : (found : Bool) (x multipliers : List Float) → found_of found x multipliers ≡ pick found (some x multipliers) none
unfolding found_of
found-is found x multipliers = refl
