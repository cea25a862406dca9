use Rattle.std.specs.Prelude.{Some}
use Rattle.folds.specs.Kit.{◌≡◌, sym, ◌∙◌}
use mathlib.Core.Path.{subst}
use lib.Dec.{T}
use lib.IntN.{ℤ, pos}
use lib.Signed.{◌≤ℤ◌}
use lib.Ieee.{binary64, fits}
use mir.Syntax.{w32, w64}
use mir.Val.{to_z, of_z}
use mir.Facts.{to_z-of_z}
use Rattle.ints.specs.Bound.{◌≼◌, same-b, sfits}
use Rattle.ints.specs.Held.{Cell, cell, literal, when<, unless<}
use Rattle.nearest.specs.Reach.{rounded, reach_small, whole-is}
use Rattle.rounding.specs.Laws.{off, on, far_off, low-off, high-off, whole-on, whole-time, time-small}
use Rattle.rounding.proofs.time_of.Goals as goal
use Rattle.rounding.proofs.time_of.Goals.{Else-n-gt-MAX_TIME, In_ok-n, Start}

good : (c : Start) → T (fits binary64 c.args.x)
good c = subst T (sym c.well_formed.0.1) tt

-- the number that the arm binds
abbrev number : In_ok-n → ℤ
number c = c.in_ok-n.n

is : (c : In_ok-n) → rounded c.args.x ≡ Some (number c)
is c = sym c.nearest.ensures ∙ c.in_ok-n.was

held : (c : In_ok-n) → Cell w64 (number c) 9007199254740992
held c =
    let x = c.args.x in
    let w = whole-is x (number c) (is c) in
    cell w64 (same-b (sym w.1) (reach_small x w.0)) tt

module _ (c : Else-n-gt-MAX_TIME) where
  abbrev k : In_ok-n
  k = (goal.at.Else-n-gt-MAX_TIME c).In_ok-n

  from : pos 0 ≤ℤ number k
  from = unless< (held k) (literal w64 (pos 0) tt) c.if-n-lt0.false

  upto : number k ≤ℤ pos 262144
  upto = unless< (literal w64 (pos 262144) tt) (held k) c.if-n-gt-MAX_TIME.false

  -- at either width it is the same number
  small : to_z w64 (of_z w64 (number k)) ≼ 262144
  small = same-b (sym ((held k).is ∙ whole-time _ (is k))) (time-small _ (whole-on _ (is k) from upto))

pub returns-in_err-n : goal.returns-in_err-n
returns-in_err-n c =
    let s = (goal.at.returns-in_err-n c).Start in
    c.from_residual.ensures ∙ off _ (far_off c.args.x (good s) (sym c.nearest.ensures ∙ c.in_err-n.was))

pub returns-then-n-lt0 : goal.returns-then-n-lt0
returns-then-n-lt0 c = let k = (goal.at.returns-then-n-lt0 c).In_ok-n in off _ (low-off _ (is k) (when< (held k) (literal w64 (pos 0) tt) c.if-n-lt0.true))

pub returns-then-n-gt-MAX_TIME : goal.returns-then-n-gt-MAX_TIME
returns-then-n-gt-MAX_TIME c = let k = (goal.at.returns-then-n-gt-MAX_TIME c).In_ok-n in off _ (high-off _ (is k) (when< (literal w64 (pos 262144) tt) (held k) c.if-n-gt-MAX_TIME.true))

pub overflow_cast-result : goal.overflow_cast-result
overflow_cast-result c = sfits (small c) tt

pub returns : goal.returns
returns c =
    let k = (goal.at.returns c).In_ok-n in
    on _ (whole-on _ (is k) (from c) (upto c)) (to_z-of_z (sfits {w = w32} (small c) tt) ∙ (held k).is ∙ whole-time _ (is k))
