use Rattle.folds.specs.Kit.{sym, ◌∙◌, rules, pick_true, pick_false}
use Rattle.bracket.specs.Bracket.{cut}
use Rattle.bracket.proofs.Bracket.cut.Goals as goal

pub returns-then-inside : goal.returns-then-inside
unfolding cut
returns-then-inside c =
    let e = c.secant-s.ensures in
    pick_true _ _ c.if-self.true (pick_true _ _ (rw e at (sym c.inside.ensures ∙ c.if-inside.true)) e)

pub returns-then-self : goal.returns-then-self
unfolding cut
returns-then-self c =
    let i = rw c.secant-s.ensures at (sym c.inside.ensures ∙ c.if-inside.false) in
    pick_true _ _ c.if-self.true (pick_false _ _ i c.halve.ensures)

pub returns : goal.returns
unfolding cut
returns c = pick_false _ _ c.if-self.false c.halve-2.ensures
