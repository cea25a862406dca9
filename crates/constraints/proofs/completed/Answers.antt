use Rattle.folds.specs.Kit.{◌-◌, ◌*◌, ◌≤◌, arith, ◌∙◌}
use native.Mathlib.Nat.{mul-le-mul_left}
use lib.Seq.{length-take-le, take_at}
use Rattle.folds.specs.Tab.{taken-over}
use Rattle.constraints.specs.Laws.{length-rows_transposed, completed-from}
use Rattle.constraints.proofs.completed.Goals as goal

pub overflow_mul-entries : goal.overflow_mul-entries
overflow_mul-entries c =
    let a = c.args in
    let e : a.n * (a.n - a.rank) ≤ a.n * a.n = mul-le-mul_left a.n (omega arith) in
    omega (arith, e)

pub rows_transposed-requires : goal.rows_transposed-requires
rows_transposed-requires c =
    let a = c.args in
    let e : a.n * (a.n - a.rank) ≤ a.n * a.n = mul-le-mul_left a.n (omega arith) in
    (omega (arith, length-take-le (a.n * a.n) c.q_transpose.new.q (omega arith)), omega arith, omega (arith, e))

pub slice_bounds-less_range_twice-end : goal.slice_bounds-less_range_twice-end
slice_bounds-less_range_twice-end c =
    let a = c.args in
    let e : a.n * (a.n - a.rank) ≤ a.n * a.n = mul-le-mul_left a.n (omega arith) in
    omega (arith, e)

pub slice_bounds-less_range_twice-end-5 : goal.slice_bounds-less_range_twice-end-5
slice_bounds-less_range_twice-end-5 c =
    let a = c.args in
    let e : a.n * (a.n - a.rank) ≤ a.n * a.n = mul-le-mul_left a.n (omega arith) in
    omega (arith, e)

pub less_range_twice-requires : goal.less_range_twice-requires
less_range_twice-requires c =
    let a = c.args in
    let e : a.n * (a.n - a.rank) ≤ a.n * a.n = mul-le-mul_left a.n (omega arith) in (
      length-take-le _ _ (omega (arith, e)),
      omega arith,
      length-take-le _ _ (omega arith),
      length-take-le _ _ (omega (arith, e)),
    )

pub returns : goal.returns
returns c =
    let a = c.args in
    let e : a.n * (a.n - a.rank) ≤ a.n * a.n = mul-le-mul_left a.n (omega arith) in
    let twice = c.less_range_twice in
    take_at _ _ _ (twice.auto.null ∙ length-take-le _ _ (omega (arith, e))) ∙
    completed-from a.n a.rank a.range.now c.q_transpose.ensures
    (taken-over _ _ (length-rows_transposed _ _ _ _) c.rows_transposed.ensures) twice.ensures
