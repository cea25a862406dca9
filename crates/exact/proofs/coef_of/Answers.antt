use mathlib.Core.Path.{sym, ◌∙◌}
use Prim.Native.Nat.{◌<◌}
use native.Mathlib.Omega.{arith}
use mir.Syntax.{w64}
use mir.Val.{of_z}
use lib.IntN.{pos}
use Rattle.ints.specs.Sum.{Σ}
use Rattle.ints.specs.Bound.{◌≼◌, delta-b}
use Rattle.ints.specs.Held.{Held, called, also, Σ-none, Σ-fits, Σ_turn, Σ_end}
use Rattle.block.specs.Gap.{coef_at}
use Rattle.block.specs.Laws.{coef_of-is}
use Rattle.block.specs.Fits.{coefs_b}
use Rattle.format.specs.Structs.{list_of}
use Rattle.format.specs.Entries.{list-length}
use Rattle.format.specs.Lent.{Lent, lent-pairs}
use Rattle.exact.specs.Entries.{coef_at-is, pair-coef}
use Rattle.exact.proofs.coef_of.Goals as goal
use Rattle.exact.proofs.coef_of.Goals.{After-coef_at-sum, After-pairs-p-items}

lent : (c : After-pairs-p-items) → Lent c.args.l.pair c.args.l.count c.pairs-p-items.result.now
lent c = lent-pairs c.requires.filled c.pairs-p-items.ensures

-- ---- a turn
module _ (c : After-coef_at-sum) where
  here : Lent c.args.l.pair c.args.l.count c.pairs-p-items.result.now
  here = lent (goal.at.After-coef_at-sum c).After-pairs-p-items

  h : c.loop-p.p-index < c.args.l.count
  h = here.within c.loop-p-test.true

  term : Held w64 (of_z w64 c.coef_at-sum.result) (coef_at c.args.i (list_of c.args.l) c.loop-p.p-index) 8
  term =
      also (rw (here.at (record { word = 0; coef = pos 0 }) c.loop-p-test.true) (sym (coef_at-is c.requires.filled h c.args.i)))
      (called w64 c.coef_at-sum.ensures (delta-b _ c.args.i (rw (here.at (record { word = 0; coef = pos 0 }) c.loop-p-test.true) (pair-coef c.requires.filled h c.requires.short))) tt)

  so-far-b : Σ c.loop-p.p-index (coef_at c.args.i (list_of c.args.l)) ≼ 32
  so-far-b = coefs_b c.requires.short c.args.i c.loop-p.p-index (omega (arith, c.loop-p.auto.p-index-end, here.long, list-length c.requires.filled))

pub loop-p-init : goal.loop-p-init
loop-p-init c = (Σ-none _).total

pub coef_at-sum-requires : goal.coef_at-sum-requires
coef_at-sum-requires c =
    let l = lent (goal.at.coef_at-sum-requires c).After-pairs-p-items in
    rw (l.at _ c.loop-p-test.true) (pair-coef c.requires.filled (l.within c.loop-p-test.true) c.requires.short)

pub overflow_add-sum : goal.overflow_add-sum
overflow_add-sum c =
    let t = (goal.at.overflow_add-sum c).After-coef_at-sum in
    Σ-fits {s = c.loop-p.sum-bits} (record { total = c.loop-p.invariant }) (so-far-b t) (term t) tt

pub loop-p-preserved : goal.loop-p-preserved
loop-p-preserved c =
    let t = (goal.at.loop-p-preserved c).After-coef_at-sum in
    (Σ_turn {s = c.loop-p.sum-bits} (record { total = c.loop-p.invariant }) (so-far-b t) (term t) tt).total

pub returns : goal.returns
returns c =
    let n = list-length c.requires.filled in
    let l = (lent (goal.at.returns c).After-pairs-p-items).long in
    Σ_end {s = c.loop-p.sum-bits} (record { total = c.loop-p.invariant }) _ (omega (arith, c.loop-p.auto.p-index-end)) (omega arith) ∙ sym (coef_of-is _ _)
