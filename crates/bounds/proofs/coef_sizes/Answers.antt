use mathlib.Core.Path.{◌≡◌, sym, ◌∙◌, ap}
use Prim.Native.Nat.{◌<◌}
use native.Mathlib.Omega.{arith}
use lib.Dec.{lit≤}
use lib.IntN.{pos}
use lib.ListN.{get_or}
use mir.Syntax.{w64}
use mir.Val.{of_z}
use Rattle.ints.specs.Sum.{Σ}
use Rattle.ints.specs.Bound.{◌≼◌, loose, pos_b}
use Rattle.ints.specs.Held.{Held, Cell, cell, called, also, read, Σ-none, Σ-fits, Σ_turn, Σ_end}
use Rattle.block.specs.Plan.{abs}
use Rattle.block.specs.Keeps.{coef_size}
use Rattle.block.specs.Laws.{coef_sizes-is}
use Rattle.block.specs.Fits.{sizes_b}
use Rattle.format.specs.Structs.{list_of, pair_at}
use Rattle.format.specs.Entries.{list-length}
use Rattle.format.specs.Lent.{Lent, lent-pairs}
use Rattle.format.specs.declared.Pair.{Pair}
use Rattle.exact.specs.Entries.{coef_size-is, pair-coef}
use Rattle.bounds.proofs.coef_sizes.Goals as goal
use Rattle.bounds.proofs.coef_sizes.Goals.{After-abs-sum, In-loop-p, After-pairs-p-items}

lent : (c : After-pairs-p-items) → Lent c.args.l.pair c.args.l.count c.pairs-p-items.result.now
lent c = lent-pairs c.requires.filled c.pairs-p-items.ensures

-- ---- a turn
module _ (c : In-loop-p) where
  abbrev p : Pair
  p = get_or c.pairs-p-items.result.now c.loop-p.p-index (record { word = 0; coef = pos 0 })

  here : Lent c.args.l.pair c.args.l.count c.pairs-p-items.result.now
  here = lent (goal.at.In-loop-p c).After-pairs-p-items

  h : c.loop-p.p-index < c.args.l.count
  h = here.within c.loop-p-test.true

  is : p ≡ pair_at c.args.l c.loop-p.p-index
  is = here.at _ c.loop-p-test.true

  coef : Cell w64 p.coef 8
  coef = rw is (cell w64 (pair-coef c.requires.filled h c.requires.short) tt)

  so-far-b : Σ c.loop-p.p-index (coef_size (list_of c.args.l)) ≼ 32
  so-far-b = sizes_b c.requires.short c.loop-p.p-index (omega (arith, h, list-length c.requires.filled))

term : (c : After-abs-sum) → Held w64 (of_z w64 c.abs-sum.result) (coef_size (list_of c.args.l) c.loop-p.p-index) 8
term c =
    let t = (goal.at.After-abs-sum c).In-loop-p in
    also (rw (is t) (sym (coef_size-is c.requires.filled (h t))))
    (called w64 (c.abs-sum.ensures ∙ ap abs (coef t).is) (pos_b (coef t).bound.size) tt)

pub loop-p-init : goal.loop-p-init
loop-p-init c = (Σ-none _).total

pub abs-sum-requires : goal.abs-sum-requires
abs-sum-requires c = loose (lit≤ tt) (read (coef (goal.at.abs-sum-requires c).In-loop-p))

pub overflow_add-sum : goal.overflow_add-sum
overflow_add-sum c =
    Σ-fits {s = c.loop-p.sum-bits} (record { total = c.loop-p.invariant }) (so-far-b (goal.at.overflow_add-sum c).In-loop-p)
    (term (goal.at.overflow_add-sum c).After-abs-sum) tt

pub loop-p-preserved : goal.loop-p-preserved
loop-p-preserved c =
    (Σ_turn {s = c.loop-p.sum-bits} (record { total = c.loop-p.invariant }) (so-far-b (goal.at.loop-p-preserved c).In-loop-p)
    (term (goal.at.loop-p-preserved c).After-abs-sum) tt).total

pub returns : goal.returns
returns c =
    let n = list-length c.requires.filled in
    let l = (lent (goal.at.returns c).After-pairs-p-items).long in
    Σ_end {s = c.loop-p.sum-bits} (record { total = c.loop-p.invariant }) _ (omega (arith, c.loop-p.auto.p-index-end)) (omega arith) ∙ sym (coef_sizes-is _)
