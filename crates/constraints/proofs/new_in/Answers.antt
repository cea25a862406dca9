use Rattle.folds.specs.Kit.{◌≡◌, ◌-◌, ◌*◌, ◌≤◌, arith, length, rules, sym, ◌∙◌}
use Rattle.folds.specs.Cell.{area}
use native.Mathlib.Nat.{le_trans, mul-le-mul_left, mul_comm}
use lib.ListN.{length-append}
use lib.Seq.{length-take-le, length_front, take-append-le, take_at}
use Rattle.sizes.specs.Sizes as Sizes
use Rattle.constraints.specs.Room.{rows_fit}
use Rattle.constraints.specs.Laws.{new-from}
use Rattle.constraints.proofs.new_in.Goals as goal
use Rattle.constraints.proofs.new_in.Goals.{After-factored-pivots, After-min-p}

abbrev size : After-factored-pivots → After-min-p
size c = (goal.at.After-factored-pivots c).After-min-p

p-m : (c : After-min-p) → c.min-p.result ≤ c.args.m
p-m c = omega arith

p-n : (c : After-min-p) → c.min-p.result ≤ c.args.n
p-n c = omega arith

-- T and Y have room
t-fits : (c : After-min-p) → c.min-p.result * c.args.m ≤ length c.args.coefficients.now
t-fits c = le_trans (rows_fit _ _ c.min-p.ensures) c.requires.0.coefficients_room

y-fits : (c : After-min-p) → c.args.n * c.min-p.result ≤ length c.args.range.now
y-fits c = le_trans (mul-le-mul_left _ (p-m c)) c.requires.0.range_room

pub overflow_mul-y : goal.overflow_mul-y
overflow_mul-y c = omega (arith, y-fits c)

pub slice_bounds-factored-end-4 : goal.slice_bounds-factored-end-4
slice_bounds-factored-end-4 c = sym (length-take-le _ _ (t-fits (goal.at.slice_bounds-factored-end-4 c).After-min-p))

pub slice_bounds-factored-end-6 : goal.slice_bounds-factored-end-6
slice_bounds-factored-end-6 c = sym (length-take-le _ _ (y-fits (goal.at.slice_bounds-factored-end-6 c).After-min-p))

pub factored-pivots-requires : goal.factored-pivots-requires
factored-pivots-requires c =
    let b3 = (goal.at.factored-pivots-requires c).After-min-p in
    let r = c.requires in (
      r.0.e_holds,
      length-take-le _ _ r.1,
      length-take-le _ _ (t-fits b3),
      length-take-le _ _ (y-fits b3),
      omega (arith, r.0.few),
      r.0.columns,
      p-m b3,
    )

columns-le : (c : After-factored-pivots) → c.args.n * c.factored-pivots.result.rank ≤ c.args.n * c.min-p.result
columns-le c = mul-le-mul_left _ c.factored-pivots.ensures.taken.few

y-length : (c : After-factored-pivots) →
    length c.factored-pivots.new.basis ≡ c.args.n * c.min-p.result
y-length c = c.factored-pivots.auto.basis ∙ length-take-le _ _ (y-fits (size c))

t-length : (c : After-factored-pivots) → length c.factored-pivots.new.coefficients ≡ c.min-p.result * c.args.m
t-length c = c.factored-pivots.auto.coefficients ∙ length-take-le _ _ (t-fits (size c))

y-holds : (c : After-factored-pivots) → c.args.n * c.factored-pivots.result.rank ≤ length c.factored-pivots.new.basis
y-holds c = rw (y-length c) (columns-le c)

columns : (c : After-factored-pivots) → length c.factored-pivots.result.column ≡ Sizes.columns
columns c = search rules

pub overflow_mul-columns : goal.overflow_mul-columns
overflow_mul-columns c = let b6 = (goal.at.overflow_mul-columns c).After-factored-pivots in omega (arith, columns-le b6, y-fits (size b6))

pub slice_bounds-null_space-end : goal.slice_bounds-null_space-end
slice_bounds-null_space-end c = simp length-append (omega (arith, y-holds (goal.at.slice_bounds-null_space-end c).After-factored-pivots))

pub slice_bounds-null_space-end-2 : goal.slice_bounds-null_space-end-2
slice_bounds-null_space-end-2 c = sym (length-take-le _ _ (simp length-append (omega (arith, y-holds (goal.at.slice_bounds-null_space-end-2 c).After-factored-pivots))))

pub null_space-requires : goal.null_space-requires
null_space-requires c =
    let b10 = (goal.at.null_space-requires c).After-factored-pivots in
    let b14 = size b10 in
    let r = c.requires in
    let few = c.factored-pivots.ensures.taken.few in
    let n = c.args.n in
    let m = c.args.m in
    let left = length_front c.args.left.now c.factored-pivots.new.left (n * m) c.factored-pivots.auto.left in
    let rank = c.factored-pivots.result.rank in
    let within : rank ≤ m = omega (arith, few, p-m b14) in
    let least : n - rank ≤ n = omega arith in
    let y = mul-le-mul_left n within in
    let part = area within least in (
      length-take-le _ _ (simp length-append (omega (arith, y-holds b10))),
      omega (arith, left, y, r.1),
      omega (arith, left, part, mul_comm n m, r.1),
      r.2,
      r.0.null_room,
      omega (arith, few, p-n b14),
      omega (arith, few, p-m b14, r.0.columns),
      r.0.few,
    )

pub returns : goal.returns
returns c =
    let b17 = (goal.at.returns c).After-factored-pivots in
    let b21 = size b17 in
    let a = c.args in
    let few = c.factored-pivots.ensures.taken.few in record {
      result_after = new-from a.n a.m c.min-p.result a.e.now _ _ _ _ _ _ _ c.min-p.ensures c.factored-pivots.ensures.result_after
          (omega (arith, few, p-m b21, c.requires.0.columns, columns b17)) (take-append-le _ _ _ (y-holds b17))
          c.null_space.ensures (take_at _ _ _ (t-length b17));
      taken = rw c.min-p.ensures at c.factored-pivots.ensures.taken;
    }

pub overflow_mul-t : goal.overflow_mul-t
overflow_mul-t c = omega (arith, t-fits c)

pub slice_bounds-factored-end-2 : goal.slice_bounds-factored-end-2
slice_bounds-factored-end-2 c = sym (length-take-le _ _ c.requires.1)

pub slice_bounds-factored-end-3 : goal.slice_bounds-factored-end-3
slice_bounds-factored-end-3 c = t-fits (goal.at.slice_bounds-factored-end-3 c).After-min-p

pub slice_bounds-factored-end-5 : goal.slice_bounds-factored-end-5
slice_bounds-factored-end-5 c = y-fits (goal.at.slice_bounds-factored-end-5 c).After-min-p
