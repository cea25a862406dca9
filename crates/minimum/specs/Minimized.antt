-- qp.rs, what `solve_piecewise_in_units` answers.
use Rattle.std.specs.Prelude.{ℕ, List, Float, take, Result, Ok, Err}
use Rattle.iterate.specs.declared.SolveError.{SolveError}
use Rattle.minimum.specs.declared.Minimum as Declared

-- `Ok(x)` with the last multipliers and the passes made, the returning one included, and what is refused
pub data Minimized : Type 0 where
  optimal : (x multipliers : List Float) (passes : ℕ) → Minimized
  refused : SolveError → Minimized

-- of what the code gives back, with n variables and m columns
unfoldable pub minimized_of : (n m : ℕ) → Result Declared.Minimum SolveError → Minimized
minimized_of n m (Ok s) = optimal (take n s.x) (take m s.multipliers) s.passes
minimized_of n m (Err e) = refused e
