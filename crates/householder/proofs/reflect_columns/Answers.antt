use Rattle.folds.specs.Kit.{◌+◌, ◌*◌, ◌≤◌, arith, length, rules, spans, span_call, col_end}
use Rattle.folds.specs.Part.{part, with_part, on_part}
use Rattle.householder.specs.Householder.{reflect_columns}
use Rattle.householder.proofs.reflect_columns.Goals as goal
use Rattle.householder.proofs.reflect_columns.Goals.{In-loop-j}

ends : (c : In-loop-j) → c.args.n + c.loop-j.j * c.args.n ≤ length c.loop-j.a
ends c =
    let h : c.args.n * c.args.m ≤ length c.loop-j.a = omega arith in col_end _ _ c.args.m _ h c.loop-j-test.true

ruleset kit = (spans, rules)

pub overflow_mul-b : goal.overflow_mul-b
unfolding reflect_columns on_part with_part part
overflow_mul-b c = omega (arith, ends c)

pub overflow_add-b : goal.overflow_add-b
unfolding reflect_columns on_part with_part part
overflow_add-b c = omega (arith, ends c)

pub overflow_mul-e : goal.overflow_mul-e
unfolding reflect_columns on_part with_part part
overflow_mul-e c = omega (arith, ends c)

pub overflow_add-e : goal.overflow_add-e
unfolding reflect_columns on_part with_part part
overflow_add-e c = omega (arith, ends c)

pub offset_bounds-a-b : goal.offset_bounds-a-b
unfolding reflect_columns on_part with_part part
offset_bounds-a-b c = omega (arith, ends c)

pub slice_bounds-reflect-count : goal.slice_bounds-reflect-count
unfolding reflect_columns on_part with_part part
slice_bounds-reflect-count c = omega (arith, ends c)

pub slice_bounds-reflect-start : goal.slice_bounds-reflect-start
unfolding reflect_columns on_part with_part part
slice_bounds-reflect-start c = omega (arith, ends c)

pub slice_bounds-reflect-end : goal.slice_bounds-reflect-end
unfolding reflect_columns on_part with_part part
slice_bounds-reflect-end c = omega (arith, ends c)

pub reflect-requires : goal.reflect-requires
unfolding reflect_columns on_part with_part part
reflect-requires c = (search kit, c.dot-w.ensures)

pub loop-j-preserved : goal.loop-j-preserved
unfolding reflect_columns on_part with_part part
loop-j-preserved c =
    let at = c.loop-j in
    (omega arith, omega arith, omega arith, span_call _ _ _ _ at.invariant.0 at.invariant.3 (rw c.reflect.ensures))

pub loop-j-init : goal.loop-j-init
unfolding reflect_columns on_part with_part part
loop-j-init c = search kit

pub returns : goal.returns
unfolding reflect_columns on_part with_part part
returns c = search kit
