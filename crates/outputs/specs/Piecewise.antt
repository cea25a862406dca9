-- qp.rs, `solve_piecewise` and `solve_bounded`: what a call answers and leaves.
use Rattle.std.specs.Prelude.{◌≡◌, ℕ, List, Float}
use Rattle.std.proofs.Math.Path.{refl}
use Rattle.iterate.specs.declared.SolveError.{SolveError}
use Rattle.iterate.specs.declared.SolveError.TheVariants.{NonFiniteCovariance, SingularCovariance, Unbounded, NotConverged}
use Rattle.minimum.specs.Minimized as Engine
use Rattle.minimum.specs.Minimized.{optimal, refused}

-- the call's answer: its sizes or its bounds refused, or what the engine answers
pub data PiecewiseAnswer : Type 0 where
  wrong_shape : PiecewiseAnswer
  blank_bound : PiecewiseAnswer
  engine : Engine.Minimized → PiecewiseAnswer

-- document 01's number of an error, and of an answer
unfoldable pub error_number : SolveError → ℕ
error_number NonFiniteCovariance = 11
error_number SingularCovariance = 12
error_number Unbounded = 13
error_number NotConverged = 14

unfoldable pub number : PiecewiseAnswer → ℕ
number wrong_shape = 9
number blank_bound = 10
number (engine (optimal x multipliers passes)) = 0
number (engine (refused e)) = error_number e

-- what the caller's slices and its number of passes hold afterwards, by what they held
unfoldable pub x_or : PiecewiseAnswer → (held : List Float) → List Float
x_or wrong_shape o = o
x_or blank_bound o = o
x_or (engine (optimal x multipliers passes)) o = x
x_or (engine (refused e)) o = o

unfoldable pub multipliers_or : PiecewiseAnswer → (held : List Float) → List Float
multipliers_or wrong_shape o = o
multipliers_or blank_bound o = o
multipliers_or (engine (optimal x multipliers passes)) o = multipliers
multipliers_or (engine (refused e)) o = o

unfoldable pub passes_or : PiecewiseAnswer → (held : ℕ) → ℕ
passes_or wrong_shape o = o
passes_or blank_bound o = o
passes_or (engine (optimal x multipliers passes)) o = passes
passes_or (engine (refused e)) o = o

-- what a call gives back for an answer: its number, and what the slices and the passes hold at exit, by what they held at entry
pub record Written (a : PiecewiseAnswer) (r : ℕ) (x x' multipliers multipliers' : List Float) (passes passes' : ℕ) : Type 0 where
  pub numbered : r ≡ number a
  pub x_written : x' ≡ x_or a x
  pub multipliers_written : multipliers' ≡ multipliers_or a multipliers
  pub passes_written : passes' ≡ passes_or a passes

-- ---- what a refusal gives back: its number, and what was there
module _ (x multipliers : List Float) (passes : ℕ) where
  abbrev Refused : PiecewiseAnswer → ℕ → Type 0
  Refused answer r = Written answer r x x multipliers multipliers passes passes

  pub refused-wrong_shape : Refused wrong_shape 9
  unfolding number x_or multipliers_or passes_or
  refused-wrong_shape = record { numbered = refl; x_written = refl; multipliers_written = refl; passes_written = refl }

  pub refused-blank_bound : Refused blank_bound 10
  unfolding number x_or multipliers_or passes_or
  refused-blank_bound = record { numbered = refl; x_written = refl; multipliers_written = refl; passes_written = refl }

  pub refused-error : (e : SolveError) → Refused (engine (refused e)) (error_number e)
  unfolding number x_or multipliers_or passes_or
  refused-error e = record { numbered = refl; x_written = refl; multipliers_written = refl; passes_written = refl }

  pub refused-non_finite : Refused (engine (refused NonFiniteCovariance)) 11
  unfolding error_number
  refused-non_finite = refused-error NonFiniteCovariance

  pub refused-singular : Refused (engine (refused SingularCovariance)) 12
  unfolding error_number
  refused-singular = refused-error SingularCovariance

  pub refused-unbounded : Refused (engine (refused Unbounded)) 13
  unfolding error_number
  refused-unbounded = refused-error Unbounded

  pub refused-not_converged : Refused (engine (refused NotConverged)) 14
  unfolding error_number
  refused-not_converged = refused-error NotConverged
