-- qp.rs, `solve_piecewise_in_units`: the passes from the start.
use Rattle.std.specs.Prelude.{List, ◌*◌, Float}
use Rattle.arith.specs.Float.{f0}
use Rattle.arith.specs.Scalar.{max}
use Rattle.reductions.specs.Reductions.{amax}
use Rattle.vector.specs.Vector.{filled}
use Rattle.segments.specs.declared.Segments.{Segments}
use Rattle.iterate.specs.Problem.{Problem, problem}
use Rattle.starting.specs.Starting.{all_fixed, slope_amax, started}
use Rattle.minimum.specs.Minimized.{Minimized}
use Rattle.active.specs.Active.{passes}

unfoldable pub solve_piecewise_in_units : Problem → (segments : List Segments) (start : List Float) → Minimized
solve_piecewise_in_units (problem originals n m q c e b) segments start =
    passes (problem originals n m q c e b) segments (all_fixed n segments) (amax (n * n) q) (max (amax n c) (slope_amax n segments))
    (started n segments start) (filled (originals * originals) f0)
