-- Laws of the definitions: a column that is found is one of E's, the last of the largest.
use Rattle.std.specs.Prelude.{◌≡◌, Bool, true, false, List, Float, Some, None}
use Rattle.std.proofs.Math.Path.{sym}
use Prim.Native.Nat.{ℕ, ◌<◌}
use Rattle.folds.specs.Fold.{pick}
use Rattle.folds.specs.Best.{Wins, last_largest_lem}
use Rattle.arith.specs.Laws.{total_through, total-passes}
use Rattle.pivot_choice.specs.PivotChoice.{offered, at_least, largest_column}

-- a column gives its own number
own : (b : Bool) (c d : ℕ × Float) → pick b (Some c) None ≡ Some d → c.0 ≡ d.0
unfolding pick
own true c d e = cc
own false c d e = cc

module _ (n m : ℕ) (left : List Float) (remaining : List Bool) where
  module _ (j : ℕ) (norm : Float) (e : Some (j, norm) ≡ largest_column n m left remaining) where
    -- of equal norms the last: none before column j's is larger, and each after it is smaller
    pub largest_last : (w : Wins at_least m (offered n left remaining) (j, norm)) × (w.index ≡ j)
    unfolding largest_column offered
    largest_last =
        let w = last_largest_lem _ (λ a b c. total_through a.1 b.1 c.1) (λ a b c. total-passes a.1 b.1 c.1) m _ _ (sym e) in
        (w, own _ _ _ w.gives)

    -- so it is one of E's
    pub found-below : j < m
    found-below = rw largest_last.1 at largest_last.0.below
