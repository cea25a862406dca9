use Rattle.folds.specs.Kit.{refl}
use Rattle.minimum.specs.Minimized.{minimized_of}
use Rattle.outputs.specs.Piecewise.{number, x_or, multipliers_or, passes_or, refused-error}
use Rattle.outputs.proofs.write_minimum.Goals as goal

pub copy_out-requires : goal.copy_out-requires
copy_out-requires c = c.requires

pub returns-in-Ok : goal.returns-in-Ok
unfolding minimized_of number x_or multipliers_or passes_or
returns-in-Ok c =
    rw c.in-Ok.is
    (record {
      numbered = refl;
      x_written = c.copy_out.ensures.0;
      multipliers_written = c.copy_out.ensures.1;
      passes_written = refl;
    })

pub returns-in-Err : goal.returns-in-Err
unfolding minimized_of
returns-in-Err c = rw (c.in-Err.is, c.error_number.ensures) (refused-error _ _ _ _)
