use Rattle.folds.specs.Kit.{◌∙◌, both}
use Rattle.noisy_kkt.specs.NoisyKkt.{finite}
use Rattle.noisy_kkt.proofs.finite.Goals as goal

pub returns-then-all_finite : goal.returns-then-all_finite
unfolding finite both
returns-then-all_finite c = rw (← c.all_finite.ensures, c.if-all_finite.true) c.all_finite-then-all_finite.ensures

pub returns-else-all_finite : goal.returns-else-all_finite
unfolding finite both
returns-else-all_finite c = rw (← c.all_finite.ensures, c.if-all_finite.false)
