use mathlib.Core.Path.{◌≡◌, sym, ◌∙◌, ap}
use mathlib.Core.List.{List}
use Prim.Native.Nat.{ℕ, ◌<◌}
use native.Mathlib.Omega.{arith}
use borrow.Author.Rules.{rules}
use lib.ListN.{length, get_or}
use mir.Syntax.{w64}
use mir.Val.{to_z, of_z}
use lib.IntN.{ℤ, pos, ◌*ℤ◌}
use Rattle.std.proofs.lemmas.List.{length_push}
use Rattle.std.proofs.lemmas.Slice.Zip.{zip_turn, zip_end}
use Rattle.ints.specs.Sum.{Σ}
use Rattle.ints.specs.Bound.{◌≼◌}
use Rattle.ints.specs.Held.{Held, Cell, cell, also, fits*, by, Σ-none, Σ-fits, Σ_turn, Σ_end}
use Rattle.block.specs.Block as Spec
use Rattle.block.specs.Gap.{price}
use Rattle.block.specs.Laws.{values-is}
use Rattle.block.specs.Fits.{values-b}
use Rattle.format.specs.Structs.{block_of, anchor_at}
use Rattle.format.specs.Entries.{anchors-length, anchor-is, anchor_in}
use Rattle.format.specs.Lent.{Lent, lent-anchors}
use Rattle.format.specs.declared.Anchor.{Anchor}
use Rattle.gap.specs.Prices.{anchor_prices}
use Rattle.gap.specs.Input.{anchor_paid, list-parts}
use Rattle.gap.proofs.values.Goals as goal
use Rattle.gap.proofs.values.Goals.{In-Some, After-anchors}

lent : (c : After-anchors) → Lent c.args.b.anchor c.args.b.anchors c.anchors.result.now
lent c = lent-anchors c.requires.sound c.anchors.ensures

-- ---- a turn: the price and the value
module _ (c : In-Some) where
  abbrev k : ℕ
  k = length c.loop-a.yielded

  abbrev b : Spec.Block
  b = block_of c.args.b

  -- the anchors' prices
  abbrev ps : List ℤ
  ps = anchor_prices b c.args.prices.now

  turn : (k < length c.anchors.result.now) × (k < length c.args.prices.now) × ((d : Anchor) → c.in-Some.a.now ≡ get_or c.anchors.result.now k d) × ((d : ℤ) → c.in-Some.p.now ≡ get_or c.args.prices.now k d)
  turn = zip_turn _ _ _ _ _ c.next.new.self _ (search rules) (search rules) c.loop-a.yielded_by _ c.in-Some.is c.next.ensures.steps

  here : Lent c.args.b.anchor c.args.b.anchors c.anchors.result.now
  here = lent (goal.at.In-Some c).After-anchors

  h : k < c.args.b.anchors
  h = here.within turn.0

  is : c.in-Some.a.now ≡ anchor_at c.args.b k
  is = turn.2 _ ∙ here.at _ turn.0

  paid : Held w64 (of_z w64 c.in-Some.p.now) (price ps k) 4294967296
  paid = rw (turn.3 (pos 0)) (anchor_paid c.requires h)

  value : Cell w64 c.in-Some.a.now.value 8388608
  value = rw is (cell w64 (record { size = (anchor_in c.requires.sound c.requires.ranged h).value }) tt)

  term : Held w64 (of_z w64 (to_z w64 (of_z w64 c.in-Some.p.now) *ℤ to_z w64 (of_z w64 c.in-Some.a.now.value)))
      (price ps k *ℤ (Spec.anchor b k).value) 36028797018963968
  term = also (ap (λ (e : Anchor). price ps k *ℤ e.value) is ∙ ap (λ (e : Spec.Anchor). price ps k *ℤ e.value) (sym (anchor-is c.requires.sound h))) (by paid value tt)

  so-far-b : Σ k (λ k. price ps k *ℤ (Spec.anchor b k).value) ≼ 288230376151711744
  so-far-b = values-b c.requires.ranged (list-parts c.requires) k (omega (arith, h, anchors-length c.requires.sound))

pub loop-a-init : goal.loop-a-init
loop-a-init c = (Σ-none _).total

pub overflow_mul-sum : goal.overflow_mul-sum
overflow_mul-sum c = let s = (goal.at.overflow_mul-sum c).In-Some in fits* (paid s) (value s) tt

pub overflow_add-sum : goal.overflow_add-sum
overflow_add-sum c =
    let s = (goal.at.overflow_add-sum c).In-Some in
    Σ-fits {s = c.loop-a.sum-bits} (record { total = c.loop-a.invariant }) (so-far-b s) (term s) tt

pub loop-a-preserved : goal.loop-a-preserved
loop-a-preserved c =
    let s = (goal.at.loop-a-preserved c).In-Some in
    rw (length_push c.loop-a.yielded (c.in-Some.a, c.in-Some.p)) (Σ_turn {s = c.loop-a.sum-bits} (record { total = c.loop-a.invariant }) (so-far-b s) (term s) tt).total

pub returns : goal.returns
returns c =
    let n = anchors-length c.requires.sound in
    let l = (lent (goal.at.returns c).After-anchors).long in
    let e = zip_end c.anchors.result.now c.args.prices.now _ _ _ c.next.new.self _ (search rules) (search rules) c.loop-a.yielded_by c.in-None.is c.next.ensures.steps in
    Σ_end {s = c.loop-a.sum-bits} (record { total = c.loop-a.invariant }) _ (omega (arith, e, l, c.requires.enough)) (omega (arith, e, l, c.requires.enough)) ∙ sym (values-is _ _)
