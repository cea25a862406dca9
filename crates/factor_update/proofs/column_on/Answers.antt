use Rattle.folds.specs.Kit.{◌≡◌, ◌≤◌, sym, length, arith}
use native.Mathlib.Nat.{lt_of_lt_of_le}
use lib.ListN.{take}
use Rattle.folds.specs.Tab.{taken-over}
use Rattle.folds.specs.Marks.{rising, rising-few, rising-below}
use Rattle.columns.specs.Laws.{length-column}
use Rattle.factor_update.specs.Factor.{column_on}
use Rattle.factor_update.proofs.column_on.Goals as goal
use Rattle.factor_update.proofs.column_on.Goals.{After-rising-k}

few : (c : After-rising-k) → c.rising-k.result ≤ c.args.originals
few c = rw c.rising-k.ensures.value (rising-few c.args.originals c.args.s)

-- the part of the array that is lent is the list
lent : (c : After-rising-k) → take c.rising-k.result c.rising-k.new.list ≡ rising c.args.originals c.args.s
lent c = taken-over _ _ (sym c.rising-k.ensures.value) c.rising-k.ensures.list_after

pub slice_bounds-select-end : goal.slice_bounds-select-end
slice_bounds-select-end c = let r = (goal.at.slice_bounds-select-end c).After-rising-k in rw (lent r) c.rising-k.ensures.value

pub select-requires : goal.select-requires
select-requires c =
    let r = (goal.at.select-requires c).After-rising-k in
    let e : c.rising-k.result ≡ length (take c.rising-k.result c.rising-k.new.list) = rw (lent r) c.rising-k.ensures.value in (
      rw (c.column.ensures, length-column c.args.n c.args.q.now c.args.i) (omega arith),
      omega (arith, e),
      omega (arith, few r, c.requires),
      rw (lent r, c.rising-k.ensures.value) (λ i h. lt_of_lt_of_le (rising-below c.args.originals c.args.s i h) c.requires.0.within),
    )

pub returns : goal.returns
unfolding column_on
returns c =
    let r = (goal.at.returns c).After-rising-k in
    rw (c.select.ensures, c.column.ensures, lent r, c.rising-k.ensures.value)

pub column-requires : goal.column-requires
column-requires c = (c.requires.0.q_holds, omega (arith, c.requires.0.within))

pub slice_bounds-list-end : goal.slice_bounds-list-end
slice_bounds-list-end c = let r = (goal.at.slice_bounds-list-end c).After-rising-k in omega (arith, few r, c.requires.0.few)
