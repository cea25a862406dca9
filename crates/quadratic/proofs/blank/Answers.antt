use Rattle.folds.specs.Kit.{refl, sym, ◌∙◌, rules, pick_true, pick_false}
use Rattle.quadratic.specs.Quadratic.{blank}
use Rattle.quadratic.proofs.blank.Goals as goal

pub returns-then-any_nan : goal.returns-then-any_nan
unfolding blank
returns-then-any_nan c = pick_true _ _ (sym c.any_nan.ensures ∙ c.if-any_nan.true) refl

pub returns-then-any_nan-2 : goal.returns-then-any_nan-2
unfolding blank
returns-then-any_nan-2 c =
    pick_false _ _ (sym c.any_nan.ensures ∙ c.if-any_nan.false)
    (pick_true _ _ (sym c.any_nan-2.ensures ∙ c.if-any_nan-2.true) refl)

pub returns-then-any_nan-3 : goal.returns-then-any_nan-3
unfolding blank
returns-then-any_nan-3 c =
    pick_false _ _ (sym c.any_nan.ensures ∙ c.if-any_nan.false)
    (pick_false _ _ (sym c.any_nan-2.ensures ∙ c.if-any_nan-2.false)
    (pick_true _ _ (sym c.any_nan-3.ensures ∙ c.if-any_nan-3.true) refl))

pub returns : goal.returns
unfolding blank
returns c =
    pick_false _ _ (sym c.any_nan.ensures ∙ c.if-any_nan.false)
    (pick_false _ _ (sym c.any_nan-2.ensures ∙ c.if-any_nan-2.false)
    (pick_false _ _ (sym c.any_nan-3.ensures ∙ c.if-any_nan-3.false) c.any_nan-4.ensures))
