-- qp.rs, `solve_kkt`: what a call answers and leaves.
use Rattle.std.specs.Prelude.{◌≡◌, refl, ℕ, List, Float}
use Rattle.solution.specs.Solution.{Kkt, optimum, no_optimum, non_finite, singular}

-- the call's answer: its sizes refused, or what the engine answers
pub data KktAnswer : Type 0 where
  wrong_shape : KktAnswer
  engine : Kkt → KktAnswer

-- document 01's number of an answer; 100 is `Ok(None)`
unfoldable pub number : KktAnswer → ℕ
number wrong_shape = 9
number (engine (optimum x multipliers)) = 0
number (engine no_optimum) = 100
number (engine non_finite) = 11
number (engine singular) = 12

-- what the caller's slices hold afterwards, by what they held
unfoldable pub x_or : KktAnswer → (held : List Float) → List Float
x_or wrong_shape o = o
x_or (engine (optimum x multipliers)) o = x
x_or (engine no_optimum) o = o
x_or (engine non_finite) o = o
x_or (engine singular) o = o

unfoldable pub multipliers_or : KktAnswer → (held : List Float) → List Float
multipliers_or wrong_shape o = o
multipliers_or (engine (optimum x multipliers)) o = multipliers
multipliers_or (engine no_optimum) o = o
multipliers_or (engine non_finite) o = o
multipliers_or (engine singular) o = o

-- what a call gives back for an answer: its number, and what the two slices hold at exit, by what they held at entry
pub record Written (a : KktAnswer) (r : ℕ) (x x' multipliers multipliers' : List Float) : Type 0 where
  pub numbered : r ≡ number a
  pub x_written : x' ≡ x_or a x
  pub multipliers_written : multipliers' ≡ multipliers_or a multipliers

-- ---- what a refusal gives back: its number, and what was there
pub refused-wrong_shape : (x multipliers : List Float) → Written wrong_shape 9 x x multipliers multipliers
unfolding number x_or multipliers_or
refused-wrong_shape x multipliers = record { numbered = refl; x_written = refl; multipliers_written = refl }
