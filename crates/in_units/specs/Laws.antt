-- Laws of the definitions: what the calls leave, put together, and how many passes are made.
use Rattle.std.specs.Prelude.{◌≡◌, Bool, List, ℕ, ◌*◌, Float}
use Rattle.std.proofs.Common.{◌∙◌}
use Rattle.arith.specs.Scalar.{max}
use Rattle.arith.specs.Float.{f0}
use Rattle.reductions.specs.Reductions.{amax}
use Rattle.vector.specs.Vector.{filled}
use Rattle.segments.specs.declared.Segments.{Segments}
use Rattle.iterate.specs.Problem.{problem}
use Rattle.iterate.specs.declared.Iterate.{Iterate}
use Rattle.starting.specs.Starting.{all_fixed, slope_amax, started}
use Rattle.minimum.specs.Minimized.{Minimized}
use Rattle.minimum.specs.Counted.{budget}
use Rattle.active.specs.Active.{passes}
use Rattle.minimum.specs.Laws.{Within}
use Rattle.active.specs.Laws.{passes-within}
use Rattle.in_units.specs.InUnits.{solve_piecewise_in_units}

-- what the calls leave, put together
pub units-from : {r : Minimized} {fixed : List Bool} {q_amax linear : Float} {i : Iterate} {l : List Float}
    (originals n m : ℕ) (q c e b : List Float) (segments : List Segments) (start : List Float) →
    fixed ≡ all_fixed n segments → q_amax ≡ amax (n * n) q → linear ≡ max (amax n c) (slope_amax n segments) →
    i ≡ started n segments start → l ≡ filled (originals * originals) f0 →
    r ≡ passes (problem originals n m q c e b) segments fixed q_amax linear i l →
    r ≡ solve_piecewise_in_units (problem originals n m q c e b) segments start
unfolding solve_piecewise_in_units
units-from originals n m q c e b segments start f g h s z r = r ∙ rw (s, z, h, g, f)

-- the number of passes is from 1 to the budget
pub solve-within : (originals n m : ℕ) (q c e b : List Float) (segments : List Segments) (start : List Float) →
    Within (budget n) (solve_piecewise_in_units (problem originals n m q c e b) segments start)
unfolding solve_piecewise_in_units
solve-within originals n m q c e b segments start = passes-within originals n m q c e b segments _ _ _ _ _
