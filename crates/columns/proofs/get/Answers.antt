use Rattle.folds.specs.Kit.{◌+◌, ◌*◌, ◌<◌, arith, length, cell-lt}
use Rattle.columns.proofs.get.Goals as goal
use Rattle.columns.proofs.get.Goals.{Start}

in-range : (c : Start) → c.args.i + c.args.j * c.args.n < length c.args.a.now
in-range c = cell-lt _ _ _ c.args.m _ c.requires.0 c.requires.1 c.requires.2

pub overflow_mul-result : goal.overflow_mul-result
overflow_mul-result c = omega (arith, in-range c)

pub overflow_add-result : goal.overflow_add-result
overflow_add-result c = omega (arith, in-range c)

pub offset_bounds-a-i : goal.offset_bounds-a-i
offset_bounds-a-i c = omega (arith, in-range c)

pub bounds-a-i : goal.bounds-a-i
bounds-a-i c = omega (arith, in-range (goal.at.bounds-a-i c).Start)
