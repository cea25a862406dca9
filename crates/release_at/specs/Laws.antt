-- Laws of the definitions.
use Rattle.std.specs.Prelude.{◌≡◌, List, ℕ, ◌<◌, Bool, length, take, Float}
use Rattle.vector.specs.Laws.{length-sub}
use Rattle.matrix.specs.Matrix.{mul_vec}
use Rattle.segments.specs.Segments.{last, segments_at, AllPlaced}
use Rattle.segments.specs.declared.Segments.{Segments}
use Rattle.blocking.specs.declared.Board.{Board}
use Rattle.releasing.specs.Laws.{entered as enters}
use Rattle.releasing.specs.declared.Outcome.TheVariants.{Enter}
use Rattle.release_at.specs.ReleaseAt.{gradient, scale, release}

pub length-gradient : (n : ℕ) (q c x : List Float) → length (gradient n q c x) ≡ n
unfolding gradient
length-gradient n q c x = length-sub n (mul_vec n n q x) c

-- the variable that enters is one of the n, and goes into one of its segments
pub release_enters : (originals n m : ℕ) (q c e : List Float) (segments : List Segments) (fixed : List Bool) (q_amax linear : Float)
    (multipliers : List Float) (board : Board) → AllPlaced n segments board.state → (i j : ℕ) →
    Enter i j ≡ release originals n m q c e segments fixed q_amax linear multipliers board → (i < n) × (j < last (segments_at segments i))
unfolding release
release_enters originals n m q c e segments fixed q_amax linear multipliers board placed i j equal =
    let x = take n board.x in
    let pushback = mul_vec n m e multipliers in
    enters n segments board.state placed fixed (take n board.refused) (gradient n q c x) pushback
    (scale q_amax linear originals x n pushback) i j equal
