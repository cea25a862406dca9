use Rattle.folds.specs.Kit.{refl, ◌∙◌, fold_call, fold_end, kit, arith}
use Rattle.format.specs.Entries.{list-length}
use Rattle.format.specs.Lent.{lent-pairs}
use Rattle.block_cost.specs.Cost.{add_products}
use Rattle.block_floats.specs.Entries.{word_of, word-within, coef-read, coef-of}
use Rattle.block_cost.proofs.add_products.Goals as goal

pub add_row-requires : goal.add_row-requires
add_row-requires c =
    let p = c.requires in
    let h = c.loop-p-test.true in
    record { filled = p.filled; ranged_list = p.ranged_tempo.list; i_lt_n = (word-within p.filled c.pairs-p-items.ensures h p.ranged_tempo.list, p.n_bound.0, omega (arith, p.n_bound.1, c.loop-p.invariant.0)) }

pub loop-p-preserved : goal.loop-p-preserved
loop-p-preserved c =
    let h = c.loop-p-test.true in
    let F = c.requires.filled in (
      omega arith,
      fold_call _ _ _ c.loop-p.invariant.1
          (c.add_row.ensures
          ∙ rw (word_of F c.pairs-p-items.ensures h, coef-of F c.pairs-p-items.ensures h c.requires.ranged_tempo.list.short c.whole.ensures)),
    )

pub returns : goal.returns
unfolding add_products
returns c =
    let n = list-length c.requires.filled in
    let e = (lent-pairs c.requires.filled c.pairs-p-items.ensures).long in
    rw (← c.nearest_u64_to_f64-weight.ensures) (fold_end _ _ _ _ (omega (arith, c.loop-p.auto.p-index-end)) (omega arith) c.loop-p.invariant.1)

pub whole-requires : goal.whole-requires
whole-requires c =
    let p = c.requires in
    coef-read p.filled c.pairs-p-items.ensures c.loop-p-test.true p.ranged_tempo.list.short

pub loop-p-init : goal.loop-p-init
loop-p-init c = (refl, search kit)
