use mathlib.Core.Path.{◌≡◌, sym, ◌∙◌}
use Prim.Native.Nat.{◌<◌}
use native.Mathlib.Omega.{arith}
use mir.Syntax.{w64}
use mir.Val.{to_z, of_z}
use lib.IntN.{pos, ◌*ℤ◌}
use lib.ListN.{get_or}
use Rattle.ints.specs.Sum.{Σ}
use Rattle.ints.specs.Bound.{◌≼◌}
use Rattle.ints.specs.Held.{Held, Cell, cell, called, also, fits*, by, Σ-none, Σ-fits, Σ_turn, Σ_end}
use Rattle.block.specs.Plan.{time, product}
use Rattle.block.specs.Laws.{sum_of-is}
use Rattle.block.specs.Fits.{products_b}
use Rattle.format.specs.Structs.{list_of, pair_at}
use Rattle.format.specs.Entries.{list-length}
use Rattle.format.specs.Lent.{Lent, lent-pairs}
use Rattle.exact.specs.Entries.{product-is, pair-coef, pair-word, pair-time}
use Rattle.format.specs.declared.Pair.{Pair}
use Rattle.exact.proofs.list_sum.Goals as goal
use Rattle.exact.proofs.list_sum.Goals.{After-time_at, After-pairs-p-items, At-loop-p}

lent : (c : After-pairs-p-items) → Lent c.args.l.pair c.args.l.count c.pairs-p-items.result.now
lent c = lent-pairs c.requires.filled c.pairs-p-items.ensures

-- ---- a turn: the coefficient, the time and their product
module _ (c : After-time_at) where
  abbrev p : Pair
  p = get_or c.pairs-p-items.result.now c.loop-p.p-index (record { word = 0; coef = pos 0 })

  here : Lent c.args.l.pair c.args.l.count c.pairs-p-items.result.now
  here = lent (goal.at.After-time_at c).After-pairs-p-items

  h : c.loop-p.p-index < c.args.l.count
  h = here.within c.loop-p-test.true

  is : p ≡ pair_at c.args.l c.loop-p.p-index
  is = here.at _ c.loop-p-test.true

  coef : Cell w64 p.coef 8
  coef = rw is (cell w64 (pair-coef c.requires.filled h c.requires.ranged_list.short) tt)

  timed : Held w64 (of_z w64 c.time_at.result) (time c.args.times.now p.word) 262144
  timed = called w64 c.time_at.ensures (rw is (pair-time c.requires.filled h c.requires.ranged_list c.requires.timed)) tt

  term : Held w64 (of_z w64 (to_z w64 (of_z w64 p.coef) *ℤ to_z w64 (of_z w64 c.time_at.result)))
      (product (list_of c.args.l) c.args.times.now c.loop-p.p-index) 2097152
  term = also (rw is (sym (product-is c.requires.filled h c.args.times.now))) (by coef timed tt)

  so-far-b : Σ c.loop-p.p-index (product (list_of c.args.l) c.args.times.now) ≼ 8388608
  so-far-b = products_b c.requires.ranged_list c.requires.timed c.loop-p.p-index (omega (arith, c.loop-p.auto.p-index-end, here.long, list-length c.requires.filled))

pub loop-p-init : goal.loop-p-init
loop-p-init c = (Σ-none _).total

pub time_at-requires : goal.time_at-requires
time_at-requires c =
    let l = lent (goal.at.time_at-requires c).After-pairs-p-items in
    rw (l.at _ c.loop-p-test.true) (pair-word c.requires.filled (l.within c.loop-p-test.true) c.requires.ranged_list)

pub overflow_mul-sum : goal.overflow_mul-sum
overflow_mul-sum c = let t = (goal.at.overflow_mul-sum c).After-time_at in fits* (coef t) (timed t) tt

pub overflow_add-sum : goal.overflow_add-sum
overflow_add-sum c =
    let t = (goal.at.overflow_add-sum c).After-time_at in
    Σ-fits {s = c.loop-p.sum-bits} (record { total = c.loop-p.invariant }) (so-far-b t) (term t) tt

pub loop-p-preserved : goal.loop-p-preserved
loop-p-preserved c =
    let t = (goal.at.loop-p-preserved c).After-time_at in
    (Σ_turn {s = c.loop-p.sum-bits} (record { total = c.loop-p.invariant }) (so-far-b t) (term t) tt).total

pub returns : goal.returns
returns c =
    let n = list-length c.requires.filled in
    let l = (lent (goal.at.returns c).After-pairs-p-items).long in
    Σ_end {s = c.loop-p.sum-bits} (record { total = c.loop-p.invariant }) _ (omega (arith, c.loop-p.auto.p-index-end)) (omega arith) ∙ sym (sum_of-is _ _)
