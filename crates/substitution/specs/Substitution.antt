-- qp.rs, `Constraints`: substitution in the triangle that T, p by m, has on its pivot columns, of which there are `rank`.
use Rattle.std.specs.Prelude.{ℕ, ◌+◌, ◌-◌, List, set, Float}
use Rattle.folds.specs.Fold.{fold, span}
use Rattle.arith.specs.Float.{fadd, fsub, fmul, fdiv, f0, at, sum}
use Rattle.columns.specs.Columns.{cell}
use Rattle.matrix.specs.Matrix.{index}

-- ---- in `smallest_feasible`: u with Tᵀu = b on the pivot columns, by forward substitution
-- `(b[j] - known) / self.coefficients[(i, j)]`
unfoldable pub feasible_one : (p : ℕ) (coefficients b : List Float) (j i : ℕ) (u : List Float) → Float
feasible_one p coefficients b j i u = fdiv (fsub (at b j) (sum i (λ k. fmul (cell coefficients p k j) (at u k)))) (cell coefficients p i j)

unfoldable pub forward : (p : ℕ) (coefficients b : List Float) (pivots : List ℕ) (rank : ℕ) (u : List Float) → List Float
forward p coefficients b pivots rank u = fold rank (λ i x. set x i (feasible_one p coefficients b (index pivots i) i x)) u

-- ---- in `multipliers`: λ with Tλ = h on the pivot columns, by back substitution
-- `self.pivots[first..].iter().map(|&l| self.coefficients[(i, l)] * lambda[l]).sum()`
unfoldable pub known_from : (p : ℕ) (coefficients : List Float) (pivots : List ℕ) (rank i first : ℕ) (lambda : List Float) → Float
known_from p coefficients pivots rank i first lambda =
    span first rank (λ k known. fadd known (fmul (cell coefficients p i (index pivots k)) (at lambda (index pivots k)))) f0

-- `(h[i] - known) / self.coefficients[(i, j)]`
unfoldable pub multiplier_one : (p : ℕ) (coefficients : List Float) (h : Float) (pivots : List ℕ) (rank i : ℕ) (lambda : List Float) → Float
multiplier_one p coefficients h pivots rank i lambda =
    fdiv (fsub h (known_from p coefficients pivots rank i (i + 1) lambda)) (cell coefficients p i (index pivots i))

unfoldable pub backward_one : (p : ℕ) (coefficients h : List Float) (pivots : List ℕ) (rank i : ℕ) (lambda : List Float) → List Float
backward_one p coefficients h pivots rank i lambda = set lambda (index pivots i) (multiplier_one p coefficients (at h i) pivots rank i lambda)

unfoldable pub backward : (p : ℕ) (coefficients h : List Float) (pivots : List ℕ) (rank : ℕ) (lambda : List Float) → List Float
backward p coefficients h pivots rank lambda = fold rank (λ t. backward_one p coefficients h pivots rank (rank - 1 - t)) lambda
