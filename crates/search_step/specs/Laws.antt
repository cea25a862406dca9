-- Laws of the definitions: what the code's structures stand for, and what the calls of a step give, put together.
use Rattle.std.specs.Prelude.{◌≡◌, refl, true, false, List, ℕ, take, Float, Ok, Err}
use Rattle.std.proofs.Common.{◌∙◌}
use Rattle.folds.specs.Fold.{pick, pick_true, pick_false}
use Rattle.folds.specs.Run.{Pass, more, done}
use Rattle.arith.specs.Float.{infinity}
use Rattle.minimum.specs.Minimized as Engine
use Rattle.iterate.specs.declared.SolveError.{SolveError}
use Rattle.iterate.specs.declared.SolveError.TheVariants.{NonFiniteCovariance, SingularCovariance, Unbounded, NotConverged}
use Rattle.turnover.specs.Turnover.{turnover, within}
use Rattle.bracket.specs.declared.Bracket.{Bracket}
use Rattle.bracket.specs.Bracket.{bracket_of, exceed, accept, warmed}
use Rattle.bracket.specs.Laws.{of-exceed, of-accept, of-warmed}
use Rattle.search_step.specs.declared.Stepped.TheVariants.{More, Found}
use Rattle.search_step.specs.Step.{Ended, found, refused, ended_of, stepped_of}
use Rattle.search_step.specs.Step.{double_on, double_by, cut_by}

module _ (n w : ℕ) where
  pub stepped-more : (b : Bracket) → stepped_of n w (Ok (More b)) ≡ more (bracket_of n w b)
  unfolding stepped_of
  stepped-more b = refl

  pub stepped-found : (b : Bracket) → stepped_of n w (Ok (Found b)) ≡ done (found (bracket_of n w b))
  unfolding stepped_of
  stepped-found b = refl

  pub stepped-err : (e : SolveError) → stepped_of n w (Err e) ≡ done (refused e)
  unfolding stepped_of
  stepped-err e = refl

  pub ended-ok : (b : Bracket) → ended_of n w (Ok b) ≡ found (bracket_of n w b)
  unfolding ended_of
  ended-ok b = refl

  pub ended-err : (e : SolveError) → ended_of n w (Err e) ≡ refused e
  unfolding ended_of
  ended-err e = refl

-- ---- what a solve at `high`, or at the middle, leads to; b, x and the multipliers are the code's
module _ (n w : ℕ) (at : List Float) (limit : Float) (b : Bracket) {s : Pass Bracket Ended} where
  module _ (x multipliers : List Float) (passes : ℕ) {value : Float} (moved : value ≡ turnover n (take n x) at) where
    module _ (kept : within n value limit (take n x) ≡ true) where
      pub double-found : {t : Bracket} → t ≡ accept b.high value x multipliers passes b → s ≡ done (found (bracket_of n w t)) →
          s ≡ double_by n at limit (bracket_of n w b) (Engine.optimal (take n x) (take w multipliers) passes)
      unfolding double_by
      double-found a e =
          pick_true _ _ (rw (← moved) kept) (e ∙ rw (a, of-accept n w b b.high value x multipliers passes, moved))

      pub cut-found : {t : Bracket} → t ≡ accept b.middle value x multipliers passes b → s ≡ more (bracket_of n w t) →
          s ≡ cut_by n at limit (bracket_of n w b) (Engine.optimal (take n x) (take w multipliers) passes)
      unfolding cut_by
      cut-found a e = pick_true _ _ (rw (← moved) kept) (e ∙ rw (a, of-accept n w b b.middle value x multipliers passes, moved))

    module _ (past : within n value limit (take n x) ≡ false) where
      pub double_past : {u t : Bracket} → u ≡ exceed b.high value b → t ≡ warmed x u → s ≡ double_on (bracket_of n w t) →
          s ≡ double_by n at limit (bracket_of n w b) (Engine.optimal (take n x) (take w multipliers) passes)
      unfolding double_by
      double_past {u} a c e =
          pick_false _ _ (rw (← moved) past) (e ∙ rw (c, of-warmed n w u x, a, of-exceed n w b b.high value, moved))

      pub cut_past : {t : Bracket} → t ≡ exceed b.middle value b → s ≡ more (bracket_of n w t) →
          s ≡ cut_by n at limit (bracket_of n w b) (Engine.optimal (take n x) (take w multipliers) passes)
      unfolding cut_by
      cut_past a e = pick_false _ _ (rw (← moved) past) (e ∙ rw (a, of-exceed n w b b.middle value, moved))

  pub double-unbounded : {t : Bracket} {value : Float} → value ≡ infinity → t ≡ exceed b.high value b →
      s ≡ double_on (bracket_of n w t) → s ≡ double_by n at limit (bracket_of n w b) (Engine.refused Unbounded)
  unfolding double_by
  double-unbounded i a e = e ∙ rw (a, of-exceed n w b b.high _, i)

  pub cut-unbounded : {t : Bracket} {value : Float} → value ≡ infinity → t ≡ exceed b.middle value b →
      s ≡ more (bracket_of n w t) → s ≡ cut_by n at limit (bracket_of n w b) (Engine.refused Unbounded)
  unfolding cut_by
  cut-unbounded i a e = e ∙ rw (a, of-exceed n w b b.middle _, i)

-- an error but Unbounded
pub double-broken : (n : ℕ) (at : List Float) (limit : Float) (b : Bracket) (e : SolveError) → (e ≡ Unbounded → ⊥) →
    done (refused NotConverged) ≡ double_by n at limit b (Engine.refused e)
unfolding double_by
double-broken n at limit b NonFiniteCovariance h = refl
double-broken n at limit b SingularCovariance h = refl
double-broken n at limit b Unbounded h = absurd (h refl)
double-broken n at limit b NotConverged h = refl

pub cut-broken : (n : ℕ) (at : List Float) (limit : Float) (b : Bracket) (e : SolveError) → (e ≡ Unbounded → ⊥) →
    done (refused e) ≡ cut_by n at limit b (Engine.refused e)
unfolding cut_by
cut-broken n at limit b NonFiniteCovariance h = refl
cut-broken n at limit b SingularCovariance h = refl
cut-broken n at limit b Unbounded h = absurd (h refl)
cut-broken n at limit b NotConverged h = refl
