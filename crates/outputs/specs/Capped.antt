-- qp.rs, `solve_turnover_capped`: what a call answers and leaves.
use Rattle.std.specs.Prelude.{◌≡◌, ℕ, suc, List, Float, Ok, Err}
use Rattle.std.proofs.Math.Path.{refl}
use Rattle.std.proofs.Common.{sym, ◌∙◌, arith}
use Rattle.iterate.specs.declared.SolveError.{SolveError}
use Rattle.iterate.specs.declared.SolveError.TheVariants.{NonFiniteCovariance, SingularCovariance, Unbounded, NotConverged}
use Rattle.minimum.specs.declared.CappedMinimum.{CappedMinimum}
use Rattle.minimum.specs.Minimized.{minimized_of}
use Rattle.minimum.specs.Capped.{Capped, optimal, refused, capped_of}
use Rattle.outputs.specs.Piecewise as Piecewise
use Rattle.outputs.specs.Piecewise.{error_number}

-- the call's answer: its sizes or its bounds refused, as `solve_piecewise` refuses them, or what the search answers
pub data CappedAnswer : Type 0 where
  wrong_shape : CappedAnswer
  blank_bound : CappedAnswer
  engine : Capped → CappedAnswer

-- document 01's number of an answer
unfoldable pub number : CappedAnswer → ℕ
number wrong_shape = 9
number blank_bound = 10
number (engine (optimal x multipliers passes raise)) = 0
number (engine (refused e)) = error_number e

-- what the caller's slices, its number of passes and its raise hold afterwards, by what they held
unfoldable pub x_or : CappedAnswer → (held : List Float) → List Float
x_or wrong_shape o = o
x_or blank_bound o = o
x_or (engine (optimal x multipliers passes raise)) o = x
x_or (engine (refused e)) o = o

unfoldable pub multipliers_or : CappedAnswer → (held : List Float) → List Float
multipliers_or wrong_shape o = o
multipliers_or blank_bound o = o
multipliers_or (engine (optimal x multipliers passes raise)) o = multipliers
multipliers_or (engine (refused e)) o = o

unfoldable pub passes_or : CappedAnswer → (held : ℕ) → ℕ
passes_or wrong_shape o = o
passes_or blank_bound o = o
passes_or (engine (optimal x multipliers passes raise)) o = passes
passes_or (engine (refused e)) o = o

unfoldable pub raise_or : CappedAnswer → (held : Float) → Float
raise_or wrong_shape o = o
raise_or blank_bound o = o
raise_or (engine (optimal x multipliers passes raise)) o = raise
raise_or (engine (refused e)) o = o

-- what a call gives back for an answer: its number, and what the slices and the two numbers hold at exit, by what they held at entry
pub record Written (a : CappedAnswer) (r : ℕ) (x x' multipliers multipliers' : List Float) (passes passes' : ℕ) (raise raise' : Float) : Type 0 where
  pub numbered : r ≡ number a
  pub x_written : x' ≡ x_or a x
  pub multipliers_written : multipliers' ≡ multipliers_or a multipliers
  pub passes_written : passes' ≡ passes_or a passes
  pub raise_written : raise' ≡ raise_or a raise

-- ---- the number of an answer of the search
pub number-optimal : (x multipliers : List Float) (passes : ℕ) (raise : Float) → number (engine (optimal x multipliers passes raise)) ≡ 0
unfolding number
number-optimal x multipliers passes raise = refl

pub number-non_finite : number (engine (refused NonFiniteCovariance)) ≡ 11
unfolding number error_number
number-non_finite = refl

pub number-singular : number (engine (refused SingularCovariance)) ≡ 12
unfolding number error_number
number-singular = refl

pub number-not_converged : number (engine (refused NotConverged)) ≡ 14
unfolding number error_number
number-not_converged = refl

-- ---- what a refusal gives back: its number, and what was there
module _ (x multipliers : List Float) (passes : ℕ) (raise : Float) where
  abbrev Refused : CappedAnswer → ℕ → Type 0
  Refused answer r = Written answer r x x multipliers multipliers passes passes raise raise

  pub refused-wrong_shape : Refused wrong_shape 9
  unfolding number x_or multipliers_or passes_or raise_or
  refused-wrong_shape = record { numbered = refl; x_written = refl; multipliers_written = refl; passes_written = refl; raise_written = refl }

  pub refused-blank_bound : Refused blank_bound 10
  unfolding number x_or multipliers_or passes_or raise_or
  refused-blank_bound = record { numbered = refl; x_written = refl; multipliers_written = refl; passes_written = refl; raise_written = refl }

-- ---- with 0 the answer is what was written
nonzero : {n : ℕ} → suc n ≡ 0 → ⊥
nonzero p = omega arith

module _ {x x' multipliers multipliers' : List Float} {passes passes' : ℕ} {raise raise' : Float} {n : ℕ} where
  pub optimal-written : (a : CappedAnswer) → Written a n x x' multipliers multipliers' passes passes' raise raise' → n ≡ 0 →
      a ≡ engine (optimal x' multipliers' passes' raise')
  unfolding number error_number x_or multipliers_or passes_or raise_or
  optimal-written wrong_shape w z = absurd (nonzero (sym w.numbered ∙ z))
  optimal-written blank_bound w z = absurd (nonzero (sym w.numbered ∙ z))
  optimal-written (engine (optimal y ν k t)) w z =
      λ i. engine (optimal (sym w.x_written i) (sym w.multipliers_written i) (sym w.passes_written i) (sym w.raise_written i))
  optimal-written (engine (refused NonFiniteCovariance)) w z = absurd (nonzero (sym w.numbered ∙ z))
  optimal-written (engine (refused SingularCovariance)) w z = absurd (nonzero (sym w.numbered ∙ z))
  optimal-written (engine (refused Unbounded)) w z = absurd (nonzero (sym w.numbered ∙ z))
  optimal-written (engine (refused NotConverged)) w z = absurd (nonzero (sym w.numbered ∙ z))

-- ---- what `solve_piecewise` leaves, and the raise
module _ (n w : ℕ) {k : ℕ} {x x' multipliers multipliers' : List Float} {passes passes' : ℕ} {raise : Float} where
  pub with_raise : (s : CappedMinimum) →
      Piecewise.Written (Piecewise.engine (minimized_of n w (Ok s.minimum))) k x x' multipliers multipliers' passes passes' →
      Written (engine (capped_of n w (Ok s))) k x x' multipliers multipliers' passes passes' raise s.raise
  unfolding minimized_of capped_of number x_or multipliers_or passes_or raise_or Piecewise.number Piecewise.x_or Piecewise.multipliers_or Piecewise.passes_or
  with_raise s u = record {
    numbered = u.numbered;
    x_written = u.x_written;
    multipliers_written = u.multipliers_written;
    passes_written = u.passes_written;
    raise_written = refl;
  }

  pub without_raise : (e : SolveError) →
      Piecewise.Written (Piecewise.engine (minimized_of n w (Err e))) k x x' multipliers multipliers' passes passes' →
      Written (engine (capped_of n w (Err e))) k x x' multipliers multipliers' passes passes' raise raise
  unfolding minimized_of capped_of number x_or multipliers_or passes_or raise_or Piecewise.number Piecewise.x_or Piecewise.multipliers_or Piecewise.passes_or
  without_raise e u = record {
    numbered = u.numbered;
    x_written = u.x_written;
    multipliers_written = u.multipliers_written;
    passes_written = u.passes_written;
    raise_written = refl;
  }
