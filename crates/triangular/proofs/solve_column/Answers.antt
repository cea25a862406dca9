use Rattle.folds.specs.Kit.{◌+◌, ◌*◌, ◌≤◌, arith, length, col_end}
use Rattle.folds.specs.Part.{part, with_part, with_out, on_part_out}
use Rattle.triangular.specs.Triangular.{solve_column}
use Rattle.triangular.proofs.solve_column.Goals as goal
use Rattle.triangular.proofs.solve_column.Goals.{Start}

ends : (c : Start) → c.args.n + c.args.j * c.args.n ≤ length c.args.x.now
ends c = col_end _ _ c.args.m _ c.requires.1 c.requires.2

pub overflow_mul-b : goal.overflow_mul-b
unfolding solve_column on_part_out with_out with_part part
overflow_mul-b c = omega (arith, ends (goal.at.overflow_mul-b c).Start)

pub overflow_add-e : goal.overflow_add-e
unfolding solve_column on_part_out with_out with_part part
overflow_add-e c = omega (arith, ends (goal.at.overflow_add-e c).Start)

pub offset_bounds-x-b : goal.offset_bounds-x-b
unfolding solve_column on_part_out with_out with_part part
offset_bounds-x-b c = omega (arith, ends (goal.at.offset_bounds-x-b c).Start)

pub slice_bounds-solve_lower_triangular-count : goal.slice_bounds-solve_lower_triangular-count
unfolding solve_column on_part_out with_out with_part part
slice_bounds-solve_lower_triangular-count c = omega (arith, ends (goal.at.slice_bounds-solve_lower_triangular-count c).Start)

pub slice_bounds-solve_lower_triangular-start : goal.slice_bounds-solve_lower_triangular-start
unfolding solve_column on_part_out with_out with_part part
slice_bounds-solve_lower_triangular-start c = omega (arith, ends (goal.at.slice_bounds-solve_lower_triangular-start c).Start)

pub slice_bounds-solve_lower_triangular-end : goal.slice_bounds-solve_lower_triangular-end
unfolding solve_column on_part_out with_out with_part part
slice_bounds-solve_lower_triangular-end c = omega (arith, ends (goal.at.slice_bounds-solve_lower_triangular-end c).Start)

pub solve_lower_triangular-requires : goal.solve_lower_triangular-requires
unfolding solve_column on_part_out with_out with_part part
solve_lower_triangular-requires c = omega (arith, ends (goal.at.solve_lower_triangular-requires c).Start)

pub returns : goal.returns
unfolding solve_column on_part_out with_out with_part part
returns c = rw (← c.solve_lower_triangular.ensures)
