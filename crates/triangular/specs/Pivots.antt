-- Where the pivots of a factor pass the floor none is 0, so no division by a pivot meets 0.
use Rattle.std.specs.Prelude.{◌≡◌, true, not, List, ℕ, Float}
use Rattle.std.specs.Float.Ieee.{eq}
use Rattle.folds.specs.Fold.{all_yes, out}
use Rattle.arith.specs.Float.{f0}
use Rattle.columns.specs.Columns.{cell}
use Rattle.cholesky.specs.Cholesky.{positive_definite}
use Rattle.cholesky.specs.Pivots.{Sounds, sound-not-zero, definite_sounds}
use Rattle.triangular.specs.Triangular.{regular, forward, solve_lower, backward, tr_solve_lower}
use Rattle.triangular.specs.Regular.{lower-solved, tr_lower-solved}

pub sounds_regular : (n : ℕ) (l : List Float) → Sounds n l → regular l n ≡ true
unfolding regular
sounds_regular n l h = all_yes n (λ i. not (eq (cell l n i i) f0)) (λ i k. rw (sound-not-zero (cell l n i i) (h i k)))

-- a factor whose pivots pass has no 0 on its diagonal
pub definite-regular : (l : List Float) (n : ℕ) → positive_definite l n ≡ true → regular l n ≡ true
definite-regular l n e = sounds_regular n l (definite_sounds n l e)

-- so a test of the diagonal, in the systems that `solve` solves without one, would always pass
pub definite-solve-lower : (l : List Float) (n : ℕ) (x : List Float) → positive_definite l n ≡ true → solve_lower l n x ≡ out true (forward n l n x)
definite-solve-lower l n x e = lower-solved l n (definite-regular l n e) x

pub definite_tr_solve-lower : (l : List Float) (n : ℕ) (x : List Float) → positive_definite l n ≡ true → tr_solve_lower l n x ≡ out true (backward l n x)
definite_tr_solve-lower l n x e = tr_lower-solved l n (definite-regular l n e) x
