use Rattle.folds.specs.Kit.{pick}
use mathlib.Core.Path.{subst}
use Rattle.segments.specs.Segments.{Placed}
use Rattle.releasing.specs.Release.{wrong_one, of_state}
use Rattle.releasing.proofs.wrong_one.Goals as goal

pub returns-then-fixed : goal.returns-then-fixed
unfolding wrong_one pick
returns-then-fixed c = rw c.if-fixed.true

pub held_descent-requires : goal.held_descent-requires
held_descent-requires c =
    (c.requires.0, subst (λ t. Placed c.args.s t) c.in-At.is c.requires.1)

pub returns-in-At : goal.returns-in-At
unfolding wrong_one of_state pick
returns-in-At c = rw (c.if-fixed.false, c.in-At.is) c.held_descent.ensures

pub returns-in-Free : goal.returns-in-Free
unfolding wrong_one of_state pick
returns-in-Free c = rw (c.if-fixed.false, c.in-Free.is)
