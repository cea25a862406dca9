-- Where no diagonal entry is 0 every triangular system is solved.
use Rattle.std.specs.Prelude.{◌≡◌, Bool, List, ◌++◌, length, take, Float}
use Rattle.std.proofs.Math.Path.{refl}
use Rattle.std.proofs.Common.{ap, ◌∙◌, take_at}
use Rattle.std.proofs.Math.Bool.{true, false}
use Prim.Native.Nat.{ℕ, zero, suc}
use Rattle.folds.specs.Fold.{walk, then, pick, ended, false_true, Out, out}
use Rattle.folds.specs.Part.{on_part_out, with_out}
use Rattle.triangular.specs.Triangular.{regular, forward, solve_lower, solve_column, solve_lower_columns, backward, tr_solve_lower, solve}
use Rattle.triangular.specs.Laws.{length-forward, length-backward, length-solve}

module _ (l : List Float) (n : ℕ) (r : regular l n ≡ true) where
  pub lower-solved : (x : List Float) → solve_lower l n x ≡ out true (forward n l n x)
  unfolding solve_lower pick
  lower-solved x = rw r

  pub tr_lower-solved : (x : List Float) → tr_solve_lower l n x ≡ out true (backward l n x)
  unfolding tr_solve_lower pick
  tr_lower-solved x = rw r

  column-solved : (j : ℕ) (x : List Float) → solve_column l n j x ≡ out true (ended (solve_column l n j x))
  unfolding solve_column on_part_out with_out ended
  column-solved j x = rw (lower-solved _)

  columns-solved : (m : ℕ) (x : List Float) → solve_lower_columns l n m x ≡ out true (ended (solve_lower_columns l n m x))
  unfolding solve_lower_columns walk ended
  columns-solved zero x = refl
  columns-solved (suc m) x = go (walk m (solve_column l n) x) (columns-solved m x)
    where
      go : (o : Out (List Float)) → o ≡ out true (ended o) → then (solve_column l n m) o ≡ out true (ended (then (solve_column l n m) o))
      go (out true s) e = column-solved m s
      go (out false s) e = absurd (false_true (let z : false ≡ true = cc in z))

  -- what a call leaves of a list, with the rest of its array after it
  pub lower-taken : {b : Bool} {s : List Float} (x t : List Float) → length x ≡ n → out b s ≡ solve_lower l n x →
      out true (take n (s ++ t)) ≡ solve_lower l n x
  lower-taken {b} {s} x t h e =
      let z : s ≡ forward n l n x = cc (lower-solved x) in
      rw (take_at s t n (ap length z ∙ length-forward n l n x ∙ h), z, lower-solved x)

  pub tr_lower-taken : {b : Bool} {s : List Float} (x t : List Float) → length x ≡ n → out b s ≡ tr_solve_lower l n x →
      out true (take n (s ++ t)) ≡ tr_solve_lower l n x
  tr_lower-taken {b} {s} x t h e =
      let z : s ≡ backward l n x = cc (tr_lower-solved x) in
      rw (take_at s t n (ap length z ∙ length-backward l n x ∙ h), z, tr_lower-solved x)

  pub columns-done : {b : Bool} {s : List Float} (m : ℕ) (x : List Float) → out b s ≡ solve_lower_columns l n m x →
      out true s ≡ solve_lower_columns l n m x
  columns-done m x e = cc (columns-solved m x)

pub solve-taken : {s : List Float} (l : List Float) (n : ℕ) (x t : List Float) → length x ≡ n → s ≡ solve l n x →
    take n (s ++ t) ≡ solve l n x
solve-taken {s} l n x t h e = take_at s t n (ap length e ∙ length-solve l n x ∙ h) ∙ e
