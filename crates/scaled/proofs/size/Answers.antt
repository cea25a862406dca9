use Rattle.scaled.specs.Scaled.{size}
use Rattle.scaled.proofs.size.Goals as goal

pub returns : goal.returns
unfolding size
returns c =
    rw (
      c.scaled_norm-5.ensures,
      c.scaled_norm-4.ensures,
      c.scaled_norm-3.ensures,
      c.scaled_norm-2.ensures,
      c.scaled_norm.ensures,
      c.scaled_norm-x_norm.ensures,
    )
