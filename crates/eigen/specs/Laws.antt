-- Laws of the definitions: the lists of a decomposition have n and n * n elements, and what `split` gives is below n.
use Rattle.std.specs.Prelude.{◌≡◌, refl, true, false, List, ℕ, zero, suc, ◌+◌, ◌*◌, ◌≤◌, length, Float}
use Rattle.folds.specs.Fold.{fold_keep, pick_keep, span, Out, out}
use Rattle.folds.specs.Tab.{length-tab, length-tab_m}
use Rattle.folds.specs.Part.{two}
use Rattle.folds.specs.Run.{run, Pass, more, done}
use Rattle.folds.specs.Chosen.{length-chosen, chosen-below}
use Rattle.arith.specs.Float.{f0}
use Rattle.vector.specs.Vector.{Below}
use Rattle.vector.specs.Laws.{length-filled}
use Rattle.matrix.specs.Matrix.{identity}
use Rattle.matrix.specs.Laws.{length-identity}
use Rattle.rotation.specs.Rotation.{State, rotate}
use Rattle.rotation.specs.Laws.{Square, rotate-square}
use Rattle.eigen.specs.Eigen.{sweep_row, sweep, pass, sweeps, Eigen, eigen, nothing, symmetric, values}
use Rattle.eigen.specs.Eigen.{answer, given, tolerance, start, jacobi, symmetric_eigen, range, null}

pub length-symmetric : (n : ℕ) (r : List Float) → length (symmetric n r) ≡ n * n
unfolding symmetric
length-symmetric n r = length-tab_m n n _

pub length-values : (n : ℕ) (a : List Float) (scale : Float) → length (values n a scale) ≡ n
unfolding values
length-values n a scale = length-tab n _

-- what a call gave
pub given-eigen : (l v : List Float) → given true l v ≡ eigen l v
unfolding given
given-eigen l v = refl

pub given-nothing : (l v : List Float) → given false l v ≡ nothing
unfolding given
given-nothing l v = refl

sweep-square : (n : ℕ) (s : State) → Square n s → Square n (sweep n s)
unfolding sweep sweep_row span
sweep-square n s e =
    fold_keep (Square n) n (sweep_row n) s e
    (λ p t l h. fold_keep (Square n) _ (λ q. rotate n p (p + 1 + q)) t h (λ q u m g. rotate-square n p (p + 1 + q) u g))

abbrev state_of : Out State → State
state_of (out r s) = s

abbrev SquareAt : ℕ → Pass State (Out State) → Type 0
SquareAt n (more s) = Square n s
SquareAt n (done o) = Square n (state_of o)

pass-square : (n : ℕ) (tolerance : Float) (s : State) → Square n s → SquareAt n (pass n tolerance s)
unfolding pass
pass-square n tolerance (two a v) e = pick_keep (SquareAt n) _ e (pick_keep (SquareAt n) _ e (sweep-square n (two a v) e))

run-square : (n : ℕ) (tolerance : Float) (left made : ℕ) (p : Pass State (Out State)) → SquareAt n p →
    Square n (state_of (run (λ i. pass n tolerance) (λ i z. out false z) left made p))
unfolding run
run-square n tolerance zero made (done o) e = e
run-square n tolerance zero made (more s) e = e
run-square n tolerance (suc left) made (done o) e = e
run-square n tolerance (suc left) made (more s) e = run-square n tolerance left (made + 1) (pass n tolerance s) (pass-square n tolerance s e)

-- what fills the n and n * n elements of two lists
abbrev pub Fills : (n : ℕ) → Eigen → Type 0
Fills n (eigen l v) = (length l ≡ n) × (length v ≡ n * n)
Fills n nothing = n ≡ n

answer_fills : (n : ℕ) (scale : Float) (o : Out State) → Square n (state_of o) → Fills n (answer n scale o)
answer_fills n scale (out true (two a v)) e = (length-values n a scale, e)
answer_fills n scale (out false s) e = refl

sweeps-square : (n : ℕ) (within : Float) (s : State) → Square n s → Square n (state_of (sweeps n within s))
unfolding sweeps
sweeps-square n within s e = run-square n within 100 0 (more s) e

jacobi_fills : (n : ℕ) (a : List Float) (scale : Float) → Fills n (jacobi n a scale)
unfolding jacobi
jacobi_fills n a scale =
    answer_fills n scale (sweeps n (tolerance n (start n a scale)) (two (start n a scale) (identity n)))
    (sweeps-square n (tolerance n (start n a scale)) (two (start n a scale) (identity n)) (length-identity n))

pub fills : (n : ℕ) (a : List Float) → Fills n (symmetric_eigen n a)
unfolding symmetric_eigen
fills n a = pick_keep (Fills n) _ (pick_keep (Fills n) _ (length-filled n f0, length-identity n) (jacobi_fills n a _)) refl

-- ---- `split`: at most n numbers, each below n
module _ (n : ℕ) (values : List Float) (cutoff : Float) where
  pub range-few : length (range n values cutoff) ≤ n
  unfolding range
  range-few = length-chosen n _

  pub range-below : Below (length (range n values cutoff)) (range n values cutoff) n
  unfolding range
  range-below i h = chosen-below n _ i h

  pub null-few : length (null n values cutoff) ≤ n
  unfolding null
  null-few = length-chosen n _

  pub null-below : Below (length (null n values cutoff)) (null n values cutoff) n
  unfolding null
  null-below i h = chosen-below n _ i h
