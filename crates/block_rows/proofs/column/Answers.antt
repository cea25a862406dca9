use mathlib.Core.Path.{subst}
use lib.IntN.{pos}
use lib.ListN.{get_or}
use Rattle.folds.specs.Kit.{ℕ, ◌≡◌, refl, ◌<◌, length, length-set, arith}
use Rattle.block.specs.Ranges.{RangedList}
use Rattle.format.specs.Structs.{list_of}
use Rattle.format.specs.Entries.{list-length}
use Rattle.format.specs.Lent.{lent-pairs}
use Rattle.block_floats.specs.Entries.{word_of, word-within, coef-read, coef-of}
use Rattle.block_rows.specs.Entries.{column-none, column_turn, column_end}
use Rattle.block_rows.proofs.column.Goals as goal
use Rattle.block_rows.proofs.column.Goals.{After-fill, After-whole}

-- the list's words are numbers below the length
ranged : (c : After-fill) →
    RangedList (length c.fill.new.y) (list_of c.args.l)
ranged c =
    let e : length c.args.y.now ≡ length c.fill.new.y = omega arith in
    subst (λ (n : ℕ). RangedList n (list_of c.args.l)) e c.requires.ranged_list

inside : (c : After-whole) → (get_or c.pairs-p-items.result.now c.loop-p.p-index (record { word = 0; coef = pos 0 })).word < length c.loop-p.y
inside c =
    let l = word-within c.requires.filled c.pairs-p-items.ensures c.loop-p-test.true (ranged (goal.at.After-whole c).After-fill) in
    omega (arith, l, c.loop-p.invariant.0)

pub loop-p-init : goal.loop-p-init
loop-p-init c =
    let a = c.args in
    (refl, column-none (list_of a.l) (length a.y.now) a.y.now refl c.fill.ensures)

pub loop-p-preserved : goal.loop-p-preserved
loop-p-preserved c =
    let p = c.requires in
    let e = c.pairs-p-items.ensures in
    let h = c.loop-p-test.true in
    let n = list-length p.filled in
    let l = (lent-pairs p.filled e).within h in (
      simp length-set c.loop-p.invariant.0,
      rw (word_of p.filled e h)
          (column_turn (ranged (goal.at.loop-p-preserved c).After-fill) c.loop-p.p-index (omega arith) (coef-of p.filled e h p.ranged_list.short c.whole.ensures)
          c.loop-p.invariant.1),
    )

pub returns : goal.returns
returns c =
    let n = list-length c.requires.filled in
    let l = (lent-pairs c.requires.filled c.pairs-p-items.ensures).long in
    column_end _ _ _ _ (omega (arith, c.loop-p.auto.p-index-end)) (omega arith) c.loop-p.invariant.1

pub whole-requires : goal.whole-requires
whole-requires c = coef-read c.requires.filled c.pairs-p-items.ensures c.loop-p-test.true c.requires.ranged_list.short

pub offset_bounds-y-p : goal.offset_bounds-y-p
offset_bounds-y-p c = omega (arith, inside c)

pub bounds-y-p : goal.bounds-y-p
bounds-y-p c = inside c
