-- qp.rs, the release in `solve_piecewise_in_units`, at x.
use Rattle.std.specs.Prelude.{ℕ, ◌*◌, ◌≤◌, Bool, List, length, take, Float}
use Rattle.sizes.specs.Sizes as Sizes
use Rattle.arith.specs.Float.{fadd, fmul}
use Rattle.arith.specs.Scalar.{max}
use Rattle.reductions.specs.Reductions.{amax}
use Rattle.vector.specs.Vector.{sub}
use Rattle.matrix.specs.Matrix.{mul_vec}
use Rattle.segments.specs.declared.Segments.{Segments}
use Rattle.blocking.specs.declared.Board.{Board}
use Rattle.releasing.specs.Release as Releasing
use Rattle.releasing.specs.declared.Outcome.{Outcome}

-- the engine's sizes, and lists that hold what the counts give: `Shaped` without b
pub record Shape (originals n m : ℕ) (q c e : List Float) : Type 0 where
  pub within : originals ≤ n
  pub variables : n ≤ Sizes.variables
  pub columns : m ≤ Sizes.columns
  pub q_holds : n * n ≤ length q
  pub c_holds : n ≤ length c
  pub e_holds : n * m ≤ length e

-- `let gradient = q * &x - c`
unfoldable pub gradient : (n : ℕ) (q c x : List Float) → List Float
gradient n q c x = sub n (mul_vec n n q x) c

-- `(q.amax() * x.rows(0, originals).amax() + c.amax().max(slope_amax)).max(pushback.amax())`; `linear` is `c.amax().max(slope_amax)`
unfoldable pub scale : (q_amax linear : Float) (originals : ℕ) (x : List Float) (n : ℕ) (pushback : List Float) → Float
scale q_amax linear originals x n pushback = max (fadd (fmul q_amax (amax originals x)) linear) (amax n pushback)

-- at x, with `let pushback = e * &multipliers`
unfoldable pub release : (originals n m : ℕ) (q c e : List Float) (segments : List Segments) (fixed : List Bool) (q_amax linear : Float)
    (multipliers : List Float) → Board → Outcome
release originals n m q c e segments fixed q_amax linear multipliers board =
    let x = take n board.x in
    let pushback = mul_vec n m e multipliers in
    Releasing.release n segments board.state fixed (take n board.refused) (gradient n q c x) pushback
    (scale q_amax linear originals x n pushback)
