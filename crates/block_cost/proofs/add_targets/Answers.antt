use Rattle.folds.specs.Kit.{refl, ◌∙◌, fold_call, fold_end, kit, arith}
use Rattle.std.proofs.Common.{w64}
use Rattle.ints.specs.Held.{Cell, cell, read}
use Rattle.format.specs.Entries.{list-length}
use Rattle.format.specs.Lent.{lent-pairs}
use Rattle.block_cost.specs.Cost.{add_targets}
use Rattle.block_floats.specs.Entries.{word_of, word-within, coef-read, coef-of}
use Rattle.block_cost.proofs.add_targets.Goals as goal
use Rattle.block_cost.proofs.add_targets.Goals.{Start}

target-cell : (a : Start) → Cell w64 a.args.t.target 8388608
target-cell a = cell w64 (record { size = a.requires.ranged_tempo.target }) tt

pub plus_at-requires : goal.plus_at-requires
plus_at-requires c =
    let p = c.requires in
    omega (arith, word-within p.filled c.pairs-p-items.ensures c.loop-p-test.true p.ranged_tempo.list, c.loop-p.invariant.0)

pub loop-p-preserved : goal.loop-p-preserved
loop-p-preserved c =
    let p = c.requires in
    let h = c.loop-p-test.true in (
      omega arith,
      fold_call _ _ _ c.loop-p.invariant.1
          (c.plus_at.ensures
          ∙ rw (word_of p.filled c.pairs-p-items.ensures h, coef-of p.filled c.pairs-p-items.ensures h p.ranged_tempo.list.short c.whole.ensures)),
    )

pub returns : goal.returns
unfolding add_targets
returns c =
    let a = (goal.at.returns c).Start in
    let n = list-length c.requires.filled in
    let e = (lent-pairs c.requires.filled c.pairs-p-items.ensures).long in
    rw (← c.nearest_u64_to_f64-weight.ensures, ← (target-cell a).is, ← c.whole-target.ensures)
    (fold_end _ _ _ _ (omega (arith, c.loop-p.auto.p-index-end)) (omega arith) c.loop-p.invariant.1)

pub whole-target-requires : goal.whole-target-requires
whole-target-requires c = let a = (goal.at.whole-target-requires c).Start in read (target-cell a)

pub whole-requires : goal.whole-requires
whole-requires c =
    let p = c.requires in
    coef-read p.filled c.pairs-p-items.ensures c.loop-p-test.true p.ranged_tempo.list.short

pub loop-p-init : goal.loop-p-init
loop-p-init c = (refl, search kit)
