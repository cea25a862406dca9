-- Laws of the definitions: an optimal answer has x's n entries and m + r multipliers, and its passes are those of the solve.
use Rattle.std.specs.Prelude.{List, ℕ, ◌+◌, Float}
use Rattle.folds.specs.Fold.{pick_keep}
use Rattle.vector.specs.Laws.{length-div}
use Rattle.minimum.specs.Minimized as Engine
use Rattle.minimum.specs.Minimized.{optimal, refused}
use Rattle.minimum.specs.Laws.{Filled, Within}
use Rattle.original_units.specs.Original.{restored, original}

module _ (n m r : ℕ) (e b a row_lower row_upper scales columns : List Float) where
  pub original-filled : (s : Engine.Minimized) → Filled n (m + r) (original n m r e b a row_lower row_upper scales columns s)
  unfolding original restored
  original-filled (optimal u multipliers passes) =
      pick_keep (Filled n (m + r)) _ (length-div n u scales, length-div (m + r) multipliers columns) tt
  original-filled (refused error) = tt

  pub original-within : (budget : ℕ) (s : Engine.Minimized) → Within budget s → Within budget (original n m r e b a row_lower row_upper scales columns s)
  unfolding original restored
  original-within budget (optimal u multipliers passes) w = pick_keep (Within budget) _ w tt
  original-within budget (refused error) w = tt
