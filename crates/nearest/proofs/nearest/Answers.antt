-- `nearest` is the nearest whole number, or None.
use mathlib.Core.Path.{◌≡◌, sym, ◌∙◌, subst}
use mathlib.Core.Bool.{true}
use lib.Dec.{T}
use lib.Ieee.{binary64, fits}
use borrow.Author.Rules.{rules}
use borrow.Author.Tests.{not-true, not-false}
use mir.Syntax.{w64}
use Rattle.ints.specs.Held.{called}
use Rattle.arith.specs.Scalar.{is_finite}
use Rattle.nearest.specs.Reach.{in_reach, reach_small, not-reached, too_low, too_high, reach, far, reached}
use Rattle.nearest.proofs.nearest.Goals as goal
use mathlib.Core.Path.{ap}
use mathlib.Core.Bool.{not}
use Rattle.nearest.proofs.nearest.Goals.{Else-not-is_finite, Else-not-x-2, Start}

good : (c : Start) → T (fits binary64 c.args.x)
good c = subst T (sym c.well_formed.0.1) tt

finite : (c : Else-not-is_finite) → is_finite c.args.x ≡ true
finite c = sym c.is_finite.ensures ∙ not-false _ (ap not c.if-not-is_finite.false)

is_in_reach : (c : Else-not-x-2) → in_reach c.args.x ≡ true
is_in_reach c =
    let t = (goal.at.Else-not-x-2 c).Else-not-is_finite in
    let s = (goal.at.Else-not-x-2 c).Start in
    reach c.args.x (good s) (finite t) (not-false _ (ap not c.if-not-x.false)) (not-false _ (ap not c.if-not-x-2.false))

pub returns-then-not-is_finite : goal.returns-then-not-is_finite
returns-then-not-is_finite c =
    let x = c.args.x in
    far x (not-reached x (sym c.is_finite.ensures ∙ not-true _ (ap not c.if-not-is_finite.true)))

pub returns-then-not-x : goal.returns-then-not-x
returns-then-not-x c =
    let s = (goal.at.returns-then-not-x c).Start in
    far c.args.x (too_low c.args.x (good s) (finite (goal.at.returns-then-not-x c).Else-not-is_finite) (not-true _ (ap not c.if-not-x.true)))

pub returns-then-not-x-2 : goal.returns-then-not-x-2
returns-then-not-x-2 c =
    let s = (goal.at.returns-then-not-x-2 c).Start in
    let e = not-false _ (ap not c.if-not-x.false) in
    far c.args.x (too_high c.args.x (good s) (finite (goal.at.returns-then-not-x-2 c).Else-not-is_finite) e (not-true _ (ap not c.if-not-x-2.true)))

pub whole-requires : goal.whole-requires
whole-requires c = is_in_reach c

pub returns : goal.returns
returns c =
    let x = c.args.x in
    reached x (is_in_reach (goal.at.returns c).Else-not-x-2) (called w64 c.whole.ensures (reach_small x (is_in_reach (goal.at.returns c).Else-not-x-2)) tt).is
