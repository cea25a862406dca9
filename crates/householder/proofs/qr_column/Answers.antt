use Rattle.folds.specs.Kit.{◌+◌, ◌*◌, ◌≤◌, arith, length, col_end}
use Rattle.folds.specs.Part.{part, with_part, with_out, on_part_out}
use Rattle.householder.specs.Householder.{qr_column}
use Rattle.householder.proofs.qr_column.Goals as goal
use Rattle.householder.proofs.qr_column.Goals.{Start}

ends : (c : Start) → c.args.n + c.args.k * c.args.n ≤ length c.args.a.now
ends c = col_end _ _ c.args.m _ c.requires.0 c.requires.2

pub overflow_mul-b : goal.overflow_mul-b
unfolding qr_column on_part_out with_out with_part part
overflow_mul-b c = omega (arith, ends (goal.at.overflow_mul-b c).Start)

pub overflow_add-b : goal.overflow_add-b
unfolding qr_column on_part_out with_out with_part part
overflow_add-b c = omega (arith, ends (goal.at.overflow_add-b c).Start)

pub overflow_mul-e : goal.overflow_mul-e
unfolding qr_column on_part_out with_out with_part part
overflow_mul-e c = omega (arith, ends (goal.at.overflow_mul-e c).Start)

pub overflow_add-e : goal.overflow_add-e
unfolding qr_column on_part_out with_out with_part part
overflow_add-e c = omega (arith, ends (goal.at.overflow_add-e c).Start)

pub offset_bounds-a-b : goal.offset_bounds-a-b
unfolding qr_column on_part_out with_out with_part part
offset_bounds-a-b c = omega (arith, ends (goal.at.offset_bounds-a-b c).Start)

pub slice_bounds-reflector-count : goal.slice_bounds-reflector-count
unfolding qr_column on_part_out with_out with_part part
slice_bounds-reflector-count c = omega (arith, ends (goal.at.slice_bounds-reflector-count c).Start)

pub slice_bounds-reflector-start : goal.slice_bounds-reflector-start
unfolding qr_column on_part_out with_out with_part part
slice_bounds-reflector-start c = omega (arith, ends (goal.at.slice_bounds-reflector-start c).Start)

pub slice_bounds-reflector-end : goal.slice_bounds-reflector-end
unfolding qr_column on_part_out with_out with_part part
slice_bounds-reflector-end c = omega (arith, ends (goal.at.slice_bounds-reflector-end c).Start)

pub returns-then-reflector : goal.returns-then-reflector
unfolding qr_column on_part_out with_out with_part part
returns-then-reflector c = rw (← c.reflector.ensures, c.if-reflector.true, c.reflect_rest.ensures)

pub returns : goal.returns
unfolding qr_column on_part_out with_out with_part part
returns c = rw (← c.reflector.ensures, c.if-reflector.false)
