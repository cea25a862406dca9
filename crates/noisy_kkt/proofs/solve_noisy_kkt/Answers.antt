use Rattle.folds.specs.Kit.{pick}
use Rattle.noisy_kkt.specs.NoisyKkt.{with_scale, solve_noisy_kkt}
use Rattle.noisy_kkt.proofs.solve_noisy_kkt.Goals as goal

pub returns-then-not-finite : goal.returns-then-not-finite
unfolding solve_noisy_kkt pick
returns-then-not-finite c = rw (← c.finite.ensures, c.if-not-finite.true)

pub returns-in_default : goal.returns-in_default
unfolding solve_noisy_kkt with_scale pick
returns-in_default c = rw (← c.finite.ensures, c.if-not-finite.false, ← c.k_scale.ensures, c.in_default.is)

pub returns : goal.returns
unfolding solve_noisy_kkt with_scale pick
returns c = rw (← c.finite.ensures, c.if-not-finite.false, ← c.k_scale.ensures, c.in-Some.is) c.solve_by.ensures
