-- qp.rs, what `solve_turnover_capped` answers.
use Rattle.std.specs.Prelude.{ℕ, List, take, Float, Result, Ok, Err}
use Rattle.iterate.specs.declared.SolveError.{SolveError}
use Rattle.minimum.specs.declared.CappedMinimum as Declared

-- `Ok(x)`; document 01, 'The reference build': with the multipliers and passes of the accepted solve, and the accepted raise
pub data Capped : Type 0 where
  optimal : (x multipliers : List Float) (passes : ℕ) (raise : Float) → Capped
  refused : SolveError → Capped

-- of what the code gives back, with n variables and w columns
unfoldable pub capped_of : (n w : ℕ) → Result Declared.CappedMinimum SolveError → Capped
capped_of n w (Ok s) = optimal (take n s.minimum.x) (take w s.minimum.multipliers) s.minimum.passes s.raise
capped_of n w (Err e) = refused e
