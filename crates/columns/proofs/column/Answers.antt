use Rattle.folds.specs.Kit.{◌+◌, ◌*◌, ◌≤◌, ◌-◌, ◌≡◌, arith, length, col_end, part-tab}
use lib.Ieee.{nan}
use Rattle.columns.specs.Columns.{column}
use Rattle.columns.proofs.column.Goals as goal
use Rattle.columns.proofs.column.Goals.{Start}

ends : (c : Start) → c.args.n + c.args.j * c.args.n ≤ length c.args.a.now
ends c = col_end _ _ c.args.m _ c.requires.0 c.requires.1

pub overflow_mul-b : goal.overflow_mul-b
unfolding column
overflow_mul-b c = omega (arith, ends c)

pub overflow_add-e : goal.overflow_add-e
unfolding column
overflow_add-e c = omega (arith, ends c)

pub offset_bounds-a-b : goal.offset_bounds-a-b
unfolding column
offset_bounds-a-b c = omega (arith, ends c)

pub slice_bounds-result-start : goal.slice_bounds-result-start
unfolding column
slice_bounds-result-start c = omega (arith, ends c)

pub slice_bounds-result-end : goal.slice_bounds-result-end
unfolding column
slice_bounds-result-end c = omega (arith, ends c)

pub returns : goal.returns
unfolding column
returns c =
    let k = c.args in let z : k.j * k.n + k.n - k.j * k.n ≡ k.n = omega arith in
    rw z (part-tab nan (k.j * k.n) k.n k.a.now (omega (arith, ends (goal.at.returns c).Start)))
