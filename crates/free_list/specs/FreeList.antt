-- qp.rs, the start of a pass of `solve_piecewise_in_units`: the free variables, and the ends and slopes of their segments.
use Rattle.std.specs.Prelude.{ℕ, ◌≡◌, Bool, true, false, List, length, Float}
use Rattle.folds.specs.Chosen.{chosen}
use Rattle.segments.specs.Segments.{state_at}
use Rattle.segments.specs.declared.Segments.{Segments}
use Rattle.segments.specs.declared.State.{State}
use Rattle.segments.specs.declared.State.TheVariants.{At, Free}
-- which lists are of free variables, and the ends and slopes of a list's segments
pub use Rattle.lent_segments.specs.Lent.{Listed, lower_ends, upper_ends, slopes}

-- `matches!(state[i], State::Free(_))`
unfoldable pub is_free : State → Bool
is_free (At p) = false
is_free (Free j) = true

-- `(0..n).filter(|&i| matches!(state[i], State::Free(_))).collect()`
unfoldable pub free_indices : (n : ℕ) (state : List State) → List ℕ
free_indices n state = chosen n (λ i. is_free (state_at state i))

-- the ends of every free variable's segment
pub record Ends (n : ℕ) (segments : List Segments) (state : List State) (lower upper : List Float) : Type 0 where
  pub lower_is : lower ≡ lower_ends (length (free_indices n state)) (free_indices n state) segments state
  pub upper_is : upper ≡ upper_ends (length (free_indices n state)) (free_indices n state) segments state
