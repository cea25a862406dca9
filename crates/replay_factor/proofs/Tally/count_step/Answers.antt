use Rattle.std.specs.Prelude.{ℕ, Bool, List}
use Rattle.std.proofs.Common.{sym, mul-le-mul, arith}
use Rattle.folds.specs.Tab.{taken-over}
use Rattle.folds.specs.Marks.{rising, rising-few}
use Rattle.variable_set.specs.Rising.{Rising}
use Rattle.variable_set.specs.Laws.{rising-chosen}
use Rattle.factoring.specs.Laws.{good-reset}
use Rattle.replay_factor.proofs.Tally.count_step.Goals as goal

rises : (n : ℕ) (set : List Bool) → Rising n (rising n set)
unfolding rising
rises n set = rising-chosen _ _

pub returns-then-byte-ne0 : goal.returns-then-byte-ne0
returns-then-byte-ne0 c = good-reset _ _ _ _ c.reset.ensures

pub slice_bounds-list-end : goal.slice_bounds-list-end
slice_bounds-list-end c =
    let few = rising-few c.args.matrix.now.originals c.marks.result in
    let block = c.args.matrix.now.block in
    omega (arith, c.rising-k.ensures.value, few, block.0.few)

-- the part of the array that is lent is the set, in rising order
pub slice_bounds-update-end : goal.slice_bounds-update-end
slice_bounds-update-end c =
    rw (taken-over _ _ (sym c.rising-k.ensures.value) c.rising-k.ensures.list_after) c.rising-k.ensures.value

pub update-f-requires : goal.update-f-requires
update-f-requires c =
    let p = c.requires in
    let block = c.args.matrix.now.block in
    record {
      block = block.0;
      rises = rw (taken-over _ _ (sym c.rising-k.ensures.value) c.rising-k.ensures.list_after) (rises _ _);
      good = p.0;
      l_holds = p.1;
      room_holds = omega (arith, mul-le-mul block.0.few block.1);
    }
