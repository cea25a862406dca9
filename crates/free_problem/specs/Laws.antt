-- Laws of the definitions: what the calls of `gather` leave, put together, and what the code leaves of each part.
use Rattle.std.specs.Prelude.{◌≡◌, refl, List, ℕ, ◌*◌, Float}
use Rattle.std.proofs.Math.ListN.{length, take}
use Rattle.vector.specs.Vector.{select}
use Rattle.matrix.specs.Matrix.{select_rows}
use Rattle.slack_rows.specs.SlackRows.{kept_columns, step_noise}
use Rattle.iterate.specs.Problem.{problem, first_slack_column}
use Rattle.right_side.specs.RightSide.{linear, gradient, residuals}
use Rattle.free_problem.specs.declared.Free.{Free}
use Rattle.free_problem.specs.FreeProblem.{submatrix, Gathered, gathered_of, gather}

module _ (originals n m : ℕ) (q c e b x : List Float) (solved slacks : List ℕ) (slope : List Float) where
  abbrev columns : List ℕ
  columns = kept_columns e n m solved slacks originals (first_slack_column originals n m)

  pub gather-from : {q_rows : List Float} (r : Free) (q_free e_free : List Float) →
      r.columns ≡ length columns →
      take r.columns r.kept ≡ columns → q_rows ≡ select_rows n n q (length solved) solved →
      take (length solved * length solved) q_free ≡ submatrix n n q solved solved →
      take (length solved * length (take r.columns r.kept)) e_free ≡ submatrix n m e solved (take r.columns r.kept) →
      take (length solved) r.c ≡ linear c solved slope →
      take (length solved) r.gradient ≡ gradient (length solved) n q_rows (take (length solved) r.c) x →
      take m r.residuals ≡ residuals n m e b x →
      take r.columns r.residual ≡ select r.columns (take m r.residuals) (take r.columns r.kept) →
      r.noise ≡ step_noise q_rows (length solved) n x originals (take (length solved) r.c) →
      gathered_of (length solved) m r q_free e_free ≡ gather (problem originals n m q c e b) x solved slacks slope
  unfolding gathered_of gather
  gather-from r q_free e_free counted listed rows square entries linear_is gradient_is residuals_are residual_is noise_is =
      let h : take (length solved * length columns) e_free ≡ submatrix n m e solved columns = rw listed at entries in
      rw (gradient_is, residual_is, noise_is, linear_is, residuals_are, listed, counted, square, h, rows)

-- ---- each part, of what the code leaves
pub record Parts (k m : ℕ) (r : Free) (q_free e_free : List Float) (g : Gathered) : Type 0 where
  pub linear_is : g.c ≡ take k r.c
  pub gradient_is : g.gradient ≡ take k r.gradient
  pub residuals_are : g.residuals ≡ take m r.residuals
  pub kept_are : g.kept ≡ take r.columns r.kept
  pub residual_is : g.residual ≡ take r.columns r.residual
  pub noise_is : g.noise ≡ r.noise
  pub square_is : g.q_free ≡ take (k * k) q_free
  pub entries_are : g.e_free ≡ take (k * r.columns) e_free

pub parts : (k m : ℕ) (r : Free) (q_free e_free : List Float) → Parts k m r q_free e_free (gathered_of k m r q_free e_free)
unfolding gathered_of
parts k m r q_free e_free =
    record {
      linear_is = refl;
      gradient_is = refl;
      residuals_are = refl;
      kept_are = refl;
      residual_is = refl;
      noise_is = refl;
      square_is = refl;
      entries_are = refl;
    }
