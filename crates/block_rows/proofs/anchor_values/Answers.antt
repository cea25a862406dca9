use mir.Syntax.{w64}
use lib.IntN.{pos}
use lib.ListN.{get_or}
use Rattle.folds.specs.Kit.{refl, sym, ap, ◌∙◌, set, length-set, fold_call, arith, kit}
use Rattle.ints.specs.Held.{Cell, cell, read}
use Rattle.nearest.specs.Value.{fromℤ}
use Rattle.block.specs.Block.{Anchor}
use Rattle.format.specs.Structs.{no_pairs}
use Rattle.format.specs.Lent.{lent-anchors}
use Rattle.format.specs.Entries.{anchors-length, anchor-is, anchor_in}
use Rattle.block_rows.specs.Rows.{anchor_values}
use Rattle.block_floats.specs.Entries.{filled_by}
use Rattle.block_rows.proofs.anchor_values.Goals as goal
use Rattle.block_rows.proofs.anchor_values.Goals.{In-loop-k}

-- the value, as it is read
value : (c : In-loop-k) →
    Cell w64 (get_or c.anchors-a-items.result.now c.loop-k.k (record { value = pos 0; list = no_pairs })).value 8388608
value c =
    let p = c.requires in
    let lent = lent-anchors p.sound c.anchors-a-items.ensures in
    cell w64 (rw (lent.at (record { value = pos 0; list = no_pairs }) c.loop-k-test.true) (record { size = (anchor_in p.sound p.ranged (lent.within c.loop-k-test.true)).value })) tt

pub whole-requires : goal.whole-requires
unfolding anchor_values
whole-requires c = read (value (goal.at.whole-requires c).In-loop-k)

pub loop-k-preserved : goal.loop-k-preserved
unfolding anchor_values
loop-k-preserved c =
    let t = c.loop-k in
    let lent = lent-anchors c.requires.sound c.anchors-a-items.ensures in (
      simp length-set t.invariant.0,
      fold_call _ _ _ t.invariant.1 (ap (set t.y t.k) (c.whole.ensures ∙ ap fromℤ ((value (goal.at.loop-k-preserved c).In-loop-k).is
          ∙ ap (λ a. a.value) (lent.at _ c.loop-k-test.true)))),
    )

pub returns : goal.returns
unfolding anchor_values
returns c =
    let t = c.loop-k in
    let p = c.requires in
    let lent = lent-anchors p.sound c.anchors-a-items.ensures in
    filled_by _ _ _ _ _ _ (anchors-length p.sound) (λ i l. ap (λ (w : Anchor). fromℤ w.value) (sym (anchor-is p.sound l)))
    (omega (arith, t.auto.k-end, lent.long)) (omega (arith, c.loop-k-test.false, lent.long)) p.y_len t.invariant.1

pub loop-k-init : goal.loop-k-init
unfolding anchor_values
loop-k-init c = (refl, search kit)
