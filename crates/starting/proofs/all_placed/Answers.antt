use Rattle.folds.specs.Kit.{over-tab, arith, kit, fold_call}
use lib.ListN.{replicate}
use Rattle.sizes.specs.Sizes as Sizes
use Rattle.segments.specs.Start.{first}
use Rattle.starting.specs.Starting.{all_placed}
use Rattle.starting.specs.Laws.{all-placed}
use Rattle.starting.proofs.all_placed.Goals as goal

pub place-requires : goal.place-requires
place-requires c = c.requires.2 _ c.loop-i-test.true

pub loop-i-preserved : goal.loop-i-preserved
loop-i-preserved c = (omega arith, fold_call _ _ _ c.loop-i.invariant.1 (rw c.place.ensures.value))

pub returns : goal.returns
unfolding all_placed
returns c =
    let e = over-tab _ _ _ _ c.loop-i.invariant.0 c.loop-i-test.false (omega arith) c.loop-i.invariant.1 in
    record {
      value = e;
      all_placed = all-placed c.args.n c.args.segments (replicate Sizes.variables first) c.loop-i.state c.args.x.now c.requires.2 e;
    }

pub loop-i-init : goal.loop-i-init
loop-i-init c = search kit
