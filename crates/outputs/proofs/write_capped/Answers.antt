use Rattle.folds.specs.Kit.{rules}
use Rattle.outputs.specs.Capped.{with_raise, without_raise}
use Rattle.outputs.proofs.write_capped.Goals as goal

pub write_minimum-number-requires : goal.write_minimum-number-requires
write_minimum-number-requires c = c.requires

pub write_minimum-requires : goal.write_minimum-requires
write_minimum-requires c = c.requires

pub returns-in-Ok : goal.returns-in-Ok
returns-in-Ok c = rw c.in-Ok.is (with_raise _ _ _ c.write_minimum-number.ensures)

pub returns-in-Err : goal.returns-in-Err
returns-in-Err c = rw c.in-Err.is (without_raise _ _ _ c.write_minimum.ensures)
