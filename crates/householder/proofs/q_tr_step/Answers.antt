use Rattle.folds.specs.Kit.{◌+◌, ◌*◌, ◌≤◌, arith, length, pick, col_end}
use Rattle.folds.specs.Part.{part}
use Rattle.householder.specs.Householder.{q_tr_step, from_diagonal}
use Rattle.householder.proofs.q_tr_step.Goals as goal
use Rattle.householder.proofs.q_tr_step.Goals.{Start, Then-made-k}

ends : (c : Start) → c.args.n + c.args.k * c.args.n ≤ length c.args.a.now
ends c = col_end _ _ c.args.m _ c.requires.0 c.requires.1

ends-then : (c : Then-made-k) → c.args.n + c.args.k * c.args.n ≤ length c.args.a.now
ends-then c = ends (goal.at.Then-made-k c).Start

pub overflow_mul-s : goal.overflow_mul-s
unfolding q_tr_step from_diagonal part pick
overflow_mul-s c = omega (arith, ends-then c)

pub overflow_add-s : goal.overflow_add-s
unfolding q_tr_step from_diagonal part pick
overflow_add-s c = omega (arith, ends-then c)

pub overflow_mul-e : goal.overflow_mul-e
unfolding q_tr_step from_diagonal part pick
overflow_mul-e c = omega (arith, ends-then c)

pub overflow_add-e : goal.overflow_add-e
unfolding q_tr_step from_diagonal part pick
overflow_add-e c = omega (arith, ends-then c)

pub offset_bounds-a-s : goal.offset_bounds-a-s
unfolding q_tr_step from_diagonal part pick
offset_bounds-a-s c = omega (arith, ends-then c)

pub slice_bounds-reflect_columns-count : goal.slice_bounds-reflect_columns-count
unfolding q_tr_step from_diagonal part pick
slice_bounds-reflect_columns-count c = omega (arith, ends-then c)

pub slice_bounds-reflect_columns-start : goal.slice_bounds-reflect_columns-start
unfolding q_tr_step from_diagonal part pick
slice_bounds-reflect_columns-start c = omega (arith, ends-then c)

pub slice_bounds-reflect_columns-end : goal.slice_bounds-reflect_columns-end
unfolding q_tr_step from_diagonal part pick
slice_bounds-reflect_columns-end c = omega (arith, ends-then c)

pub returns-then-made-k : goal.returns-then-made-k
unfolding q_tr_step from_diagonal part pick
returns-then-made-k c = rw c.if-made-k.true c.reflect_columns.ensures

pub returns-else-made-k : goal.returns-else-made-k
unfolding q_tr_step from_diagonal part pick
returns-else-made-k c = rw c.if-made-k.false
