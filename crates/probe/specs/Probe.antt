-- What the hooks give for slices of any lengths.
use Rattle.std.specs.Prelude.{ℕ, ◌*◌, Bool, true, false, List, ◌≡◌, leb, eqb, length, Float}
use Rattle.std.specs.Float.{nan}
use Rattle.std.proofs.Common.{eqb-true}
use Rattle.folds.specs.Fold.{pick, both, both_true, Out, out}
use Rattle.reductions.specs.Reductions as Reductions
use Rattle.cholesky.specs.Cholesky as Cholesky
use Rattle.eigen.specs.Eigen.{Eigen, nothing, symmetric_eigen}

-- NaN where b is the shorter
unfoldable pub dot : (a b : List Float) → Float
dot a b = pick (leb (length a) (length b)) (Reductions.dot (length a) a b) nan

-- whether the slices are those of n variables, at most 48
unfoldable pub shaped : (n a room values vectors : ℕ) → Bool
shaped n a room values vectors = both (leb n 48) (both (eqb a (n * n)) (both (eqb room (n * n)) (both (eqb values n) (eqb vectors (n * n)))))

unfoldable pub eigen : (n : ℕ) (a : List Float) (room values vectors : ℕ) → Eigen
eigen n a room values vectors = pick (shaped n (length a) room values vectors) (symmetric_eigen n a) nothing

-- the factor of a symmetric matrix of at most 48 rows
unfoldable pub cholesky : (n : ℕ) (a : List Float) → Out (List Float)
cholesky n a = pick (leb n 48) (pick (leb (n * n) (length a)) (Cholesky.cholesky n a) (out false a)) (out false a)

-- a hook's answer, 1 or 0, beside the lists
abbrev pub hook : {A : Type 0} (r : ℕ) (l : A) → Out A
hook r l = out (eqb r 1) l

pub record Shape (n a room values vectors : ℕ) : Type 0 where
  pub matrix : a ≡ n * n
  pub work : room ≡ n * n
  pub column : values ≡ n
  pub square : vectors ≡ n * n

pub shape : (n a room values vectors : ℕ) → shaped n a room values vectors ≡ true → Shape n a room values vectors
unfolding shaped
shape n a room values vectors e =
    let f = both_true _ _ (both_true _ _ e).1 in
    let g = both_true _ _ f.1 in
    let h = both_true _ _ g.1 in
    record { matrix = eqb-true _ _ f.0; work = eqb-true _ _ g.0; column = eqb-true _ _ h.0; square = eqb-true _ _ h.1 }
