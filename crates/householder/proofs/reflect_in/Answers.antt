use Rattle.folds.specs.Kit.{◌≡◌, ◌∙◌, ◌+◌, ◌-◌, ◌*◌, ◌≤◌, arith, length, col_end}
use Rattle.vector.specs.Laws.{copy-over}
use Rattle.folds.specs.Part.{part, length-part}
use Rattle.householder.specs.Householder.{reflect_rest, from_diagonal}
use Rattle.householder.proofs.reflect_in.Goals as goal
use Rattle.householder.proofs.reflect_in.Goals.{Start}

ends : (c : Start) → c.args.n + c.args.k * c.args.n ≤ length c.args.a.now
ends c = col_end _ _ c.args.m _ c.requires.0 c.requires.2

height : (c : Start) →
    length (part (c.args.k + c.args.k * c.args.n) (c.args.n + c.args.k * c.args.n) c.args.a.now) ≡ c.args.n - c.args.k
height c = length-part _ _ c.args.a.now (ends c) ∙ omega arith

pub overflow_mul-b : goal.overflow_mul-b
unfolding reflect_rest from_diagonal part
overflow_mul-b c = omega (arith, ends (goal.at.overflow_mul-b c).Start)

pub overflow_add-b : goal.overflow_add-b
unfolding reflect_rest from_diagonal part
overflow_add-b c = omega (arith, ends (goal.at.overflow_add-b c).Start)

pub overflow_mul-e : goal.overflow_mul-e
unfolding reflect_rest from_diagonal part
overflow_mul-e c = omega (arith, ends (goal.at.overflow_mul-e c).Start)

pub overflow_add-e : goal.overflow_add-e
unfolding reflect_rest from_diagonal part
overflow_add-e c = omega (arith, ends (goal.at.overflow_add-e c).Start)

pub offset_bounds-a-b : goal.offset_bounds-a-b
unfolding reflect_rest from_diagonal part
offset_bounds-a-b c = omega (arith, ends (goal.at.offset_bounds-a-b c).Start)

pub slice_bounds-copy-count : goal.slice_bounds-copy-count
unfolding reflect_rest from_diagonal part
slice_bounds-copy-count c = omega (arith, ends (goal.at.slice_bounds-copy-count c).Start)

pub slice_bounds-copy-start : goal.slice_bounds-copy-start
unfolding reflect_rest from_diagonal part
slice_bounds-copy-start c = omega (arith, col_end _ _ c.args.m _ c.requires.0 c.requires.2)

pub slice_bounds-copy-end : goal.slice_bounds-copy-end
unfolding reflect_rest from_diagonal part
slice_bounds-copy-end c = omega (arith, col_end _ _ c.args.m _ c.requires.0 c.requires.2)

pub returns : goal.returns
unfolding reflect_rest from_diagonal part
returns c =
    let a = c.args in
    let e : a.n + a.k * a.n ≤ length a.a.now = col_end _ _ a.m _ c.requires.0 c.requires.2 in
    let h : length (part (a.k + a.k * a.n) (a.n + a.k * a.n) a.a.now) ≡ a.n - a.k = length-part _ _ a.a.now e ∙ omega arith in
    rw (c.reflect_columns.ensures, c.copy.ensures, copy-over _ _ a.v.now h (omega arith))
