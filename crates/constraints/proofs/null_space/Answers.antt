use Rattle.folds.specs.Kit.{◌≡◌, ◌-◌, arith, refl, ◌∙◌, pick_true, pick_false}
use borrow.Author.Tests.{eq-eqb, ne_eqb}
use Rattle.folds.specs.Tab.{taken-over}
use Rattle.matrix.specs.Laws.{length-identity}
use Rattle.constraints.specs.Constraints.{null_space}
use Rattle.constraints.proofs.null_space.Goals as goal

pub returns-then-rank-eq0 : goal.returns-then-rank-eq0
unfolding null_space
returns-then-rank-eq0 c =
    let a = c.args in
    let whole : a.n - a.rank ≡ a.n = omega (arith, c.if-rank-eq0.true) in
    rw whole (taken-over _ _ (length-identity _) c.identity.ensures ∙ pick_true _ _ (eq-eqb _ _ c.if-rank-eq0.true) refl)

pub returns : goal.returns
unfolding null_space
returns c =
    pick_false _ _ (ne_eqb _ _ c.if-rank-eq0.false) c.completed.ensures
