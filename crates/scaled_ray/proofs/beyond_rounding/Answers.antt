use Rattle.folds.specs.Kit.{pick}
use Rattle.scaled_ray.specs.ScaledRay.{beyond_rounding}
use Rattle.scaled_ray.proofs.beyond_rounding.Goals as goal
use Rattle.scaled_ray.proofs.beyond_rounding.Goals.{then-length-scaled_norm-via-then-length-scaled_norm, then-length-scaled_norm-via-else-length-scaled_norm+then-length}

pub returns-then-length-scaled_norm : goal.returns-then-length-scaled_norm
unfolding beyond_rounding pick
returns-then-length-scaled_norm c =
    rw (← c.scaled_norm-length.ensures, ← c.scaled_norm.ensures)
    (elim c.then-length-scaled_norm.branch [
      | then-length-scaled_norm-via-then-length-scaled_norm w ↦ rw w.if-length-scaled_norm.true
      | then-length-scaled_norm-via-else-length-scaled_norm+then-length w ↦ rw (w.if-length-scaled_norm.false, w.if-length.true)
    ])

pub returns : goal.returns
unfolding beyond_rounding pick
returns c = rw (← c.scaled_norm-length.ensures, ← c.scaled_norm.ensures, c.if-length-scaled_norm.false, c.if-length.false)
