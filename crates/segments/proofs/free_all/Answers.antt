use Rattle.folds.specs.Kit.{over_edit, ◌≡◌, false, ℕ, arith, get_or, kit, fold_call}
use Rattle.segments.specs.Segments.{segments_at}
use Rattle.segments.specs.Start.{first}
use Rattle.segments.specs.declared.State.{State}
use Rattle.segments.specs.Freeing.{free_one, free_all}
use Rattle.segments.specs.Laws.{free-all-placed}
use Rattle.segments.proofs.free_all.Goals as goal

pub free_one-requires : goal.free_one-requires
free_one-requires c = c.requires.2 _ c.loop-i-test.true

pub loop-i-preserved : goal.loop-i-preserved
loop-i-preserved c = (omega arith, fold_call _ _ _ c.loop-i.invariant.1 (rw c.free_one.ensures))

pub returns : goal.returns
unfolding free_all
returns c =
    let step : ℕ → State → State =
    λ t state. free_one (get_or c.args.fixed.now t false) state (segments_at c.args.segments t) in
    let e : c.loop-i.next ≡ free_all c.args.n c.args.segments c.args.fixed.now c.args.state =
    over_edit first _ _ step _ c.loop-i.invariant.0 c.loop-i-test.false (omega arith) c.loop-i.invariant.1 in
    record {
      value = e;
      all_placed = rw e (free-all-placed c.args.n c.args.segments c.args.fixed.now c.args.state c.requires.2 c.requires.3);
    }

pub loop-i-init : goal.loop-i-init
loop-i-init c = search kit
