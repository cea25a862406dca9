-- The sizes of a bracket's best solution: it has n entries and w multipliers, and its passes are from 1 to a budget.
use Rattle.std.specs.Prelude.{◌≡◌, List, ℕ, ◌≤◌, length, Float}
use Rattle.folds.specs.Fold.{pick_keep}
use Rattle.bracket.specs.declared.Bracket.{Bracket}
use Rattle.bracket.specs.Bracket.{exceed, accept, secant, halve, cut}

pub record Sized (n w budget : ℕ) (b : Bracket) : Type 0 where
  pub best_long : length b.best ≡ n
  pub multipliers_long : length b.multipliers ≡ w
  pub some : 1 ≤ b.passes
  pub few : b.passes ≤ budget

module _ (n w budget : ℕ) (b : Bracket) where
  pub accept-sized : (at value : Float) (x multipliers : List Float) (passes : ℕ) → length x ≡ n → length multipliers ≡ w → 1 ≤ passes →
      passes ≤ budget → Sized n w budget (accept at value x multipliers passes b)
  unfolding accept
  accept-sized at value x multipliers passes g h i j = record { best_long = g; multipliers_long = h; some = i; few = j }

  module _ (s : Sized n w budget b) where
    pub exceed-sized : (at value : Float) → Sized n w budget (exceed at value b)
    unfolding exceed
    exceed-sized at value =
        record { best_long = s.best_long; multipliers_long = s.multipliers_long; some = s.some; few = s.few }

    secant-sized : (limit : Float) → Sized n w budget (secant limit b)
    unfolding secant
    secant-sized limit = record { best_long = s.best_long; multipliers_long = s.multipliers_long; some = s.some; few = s.few }

    halve-sized : Sized n w budget (halve b)
    unfolding halve
    halve-sized = record { best_long = s.best_long; multipliers_long = s.multipliers_long; some = s.some; few = s.few }

    pub cut-sized : (limit : Float) → Sized n w budget (cut limit b)
    unfolding cut
    cut-sized limit = pick_keep (Sized n w budget) _ (pick_keep (Sized n w budget) _ (secant-sized limit) halve-sized) halve-sized
