use Rattle.folds.specs.Kit.{◌∙◌, refl}
use Rattle.std.proofs.Common.{le_refl}
use Rattle.folds.specs.Tab.{taken-over}
use Rattle.vector.specs.Laws.{length-mul, mul-same}
use Rattle.slack_scales.specs.Laws.{same-known}
use Rattle.slacks.specs.Slacks.{slacks_start}
use Rattle.slacks.proofs.slacks_start.Goals as goal

pub returns : goal.returns
unfolding slacks_start
returns c =
    let s = c.start_with_slacks-all in
    taken-over _ _ (length-mul _ _ _) c.mul.ensures
    ∙ mul-same _ _ _ _ _ (same-known _ _ _ _ s.ensures (le_refl _)) (λ k l. refl)
