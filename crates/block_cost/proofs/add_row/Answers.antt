use Rattle.std.proofs.Common.{le_refl}
use Rattle.folds.specs.Kit.{refl, ◌∙◌, ◌+◌, ◌*◌, ◌≤◌, ◌<◌, fold_call, fold_end, kit, arith, cell-lt}
use Rattle.folds.specs.Cell.{area}
use lib.IntN.{pos}
use lib.ListN.{get_or}
use Rattle.format.specs.Entries.{list-length}
use Rattle.format.specs.Lent.{lent-pairs}
use Rattle.block_cost.specs.Cost.{add_row}
use Rattle.block_floats.specs.Entries.{word_of, word-within, coef-read, coef-of}
use Rattle.block_cost.proofs.add_row.Goals as goal
use Rattle.block_cost.proofs.add_row.Goals.{In-loop-p}

-- ---- the entry of pair k
module _ (c : In-loop-p) where
  inside : c.args.i + (get_or c.pairs-p-items.result.now c.loop-p.p-index (record { word = 0; coef = pos 0 })).word * c.args.n < c.args.n * c.args.n
  inside = let p = c.requires in cell-lt _ _ _ _ _ (le_refl _) p.i_lt_n.0 (word-within p.filled c.pairs-p-items.ensures c.loop-p-test.true p.ranged_list)

  few : c.args.n * c.args.n ≤ 32 * 32
  few = let p = c.requires.i_lt_n.1 in area p p

pub loop-p-preserved : goal.loop-p-preserved
loop-p-preserved c =
    let h = c.loop-p-test.true in
    let F = c.requires.filled in (
      omega arith,
      fold_call _ _ _ c.loop-p.invariant.1
          (c.plus_at.ensures
          ∙ rw (word_of F c.pairs-p-items.ensures h, coef-of F c.pairs-p-items.ensures h c.requires.ranged_list.short c.whole.ensures)),
    )

pub returns : goal.returns
unfolding add_row
returns c =
    let t = c.loop-p in
    let n = list-length c.requires.filled in
    let e = (lent-pairs c.requires.filled c.pairs-p-items.ensures).long in
    fold_end _ _ _ _ (omega (arith, t.auto.p-index-end)) (omega arith) t.invariant.1

pub overflow_mul-j : goal.overflow_mul-j
overflow_mul-j c = let d = (goal.at.overflow_mul-j c).In-loop-p in omega (arith, inside d, few d)

pub overflow_add-i : goal.overflow_add-i
overflow_add-i c = let d = (goal.at.overflow_add-i c).In-loop-p in omega (arith, inside d, few d)

pub whole-requires : goal.whole-requires
whole-requires c =
    let p = c.requires in
    coef-read p.filled c.pairs-p-items.ensures c.loop-p-test.true p.ranged_list.short

pub plus_at-requires : goal.plus_at-requires
plus_at-requires c = let d = (goal.at.plus_at-requires c).In-loop-p in omega (arith, inside d, c.requires.i_lt_n.2, c.loop-p.invariant.0)

pub loop-p-init : goal.loop-p-init
loop-p-init c = (refl, search kit)
