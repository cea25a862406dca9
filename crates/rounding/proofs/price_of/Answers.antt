use borrow.Author.Tests.{not-true, not-false}
use mathlib.Core.Bool.{not}
use Rattle.std.specs.Prelude.{Some}
use Rattle.folds.specs.Kit.{◌≡◌, sym, ap, ◌∙◌, rules}
use lib.IntN.{pos}
use mir.Syntax.{w64}
use Rattle.ints.specs.Held.{called, literal, fits-}
use Rattle.nearest.specs.Reach.{rounded, reach_small, whole-is}
use Rattle.rounding.specs.Rounding.{held}
use Rattle.rounding.specs.Laws.{held-small, blank-price, far_below, far_above, whole-price}
use Rattle.rounding.proofs.price_of.Goals as goal

pub returns-then-not-is_finite : goal.returns-then-not-is_finite
returns-then-not-is_finite c = blank-price _ (sym c.is_finite.ensures ∙ not-true _ (ap not c.if-not-is_finite.true))

pub overflow_sub-result : goal.overflow_sub-result
overflow_sub-result c = fits- (literal w64 (pos 0) tt) (literal w64 (pos 4294967296) tt) tt

pub returns-in-None : goal.returns-in-None
returns-in-None c =
    far_below _ (search rules) (sym c.is_finite.ensures ∙ not-false _ (ap not c.if-not-is_finite.false)) (sym c.nearest.ensures ∙ c.in-None.is) c.if-x.true

pub returns-in-None-2 : goal.returns-in-None-2
returns-in-None-2 c =
    far_above _ (search rules) (sym c.is_finite.ensures ∙ not-false _ (ap not c.if-not-is_finite.false)) (sym c.nearest.ensures ∙ c.in-None-2.is) c.if-x.false

pub returns-in-Some : goal.returns-in-Some
returns-in-Some c =
    let e : rounded c.args.x ≡ Some c.in-Some.n = sym c.nearest.ensures ∙ c.in-Some.is in
    let w = whole-is _ _ e in
    whole-price _ e
    (called w64 (c.held.ensures ∙ ap held ((called w64 w.1 (reach_small _ w.0) tt).is ∙ sym w.1)) (held-small _) tt).is
