use Rattle.folds.specs.Tab.{taken-over}
use Rattle.matrix.specs.Laws.{length-mul_vec}
use Rattle.release_at.specs.ReleaseAt.{release}
use Rattle.release_at.specs.Laws.{length-gradient}
use Rattle.release_at.proofs.release.Goals as goal
use Rattle.release_at.proofs.release.Goals.{After-mul_vec, After-scale-scale, Start}

pub returns : goal.returns
unfolding release
returns c =
    rw (
      ← taken-over _ _ (length-mul_vec _ _ _ _) c.mul_vec.ensures,
      ← c.scale-scale.ensures,
      ← taken-over _ _ (length-gradient _ _ _ _) c.gradient_at.ensures,
    )
    c.release.ensures
