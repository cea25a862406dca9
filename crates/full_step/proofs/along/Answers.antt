use Rattle.std.specs.Prelude.{Float}
use Rattle.std.proofs.Common.{length-take}
use Rattle.folds.specs.Kit.{◌≡◌, ◌≤◌, arith, length, rules}
use native.Mathlib.Nat.{le_refl}
use Rattle.folds.specs.Tab.{taken-over}
use Rattle.sizes.specs.Sizes as Sizes
use Rattle.vector.specs.Laws.{length-select}
use Rattle.free_list.specs.Laws.{listed_below, listed}
use Rattle.full_step.specs.FullStep.{along}
use Rattle.full_step.specs.Laws.{listed_few, listed_entries}
use Rattle.full_step.proofs.along.Goals as goal
use Rattle.full_step.proofs.along.Goals.{Start}

few : (c : Start) → length c.args.indices.now ≤ Sizes.variables
few c = omega (arith, listed_few c.args.n c.args.iterate.board.state c.requires.3, c.requires.0)

pub select-requires : goal.select-requires
select-requires c =
    let e : length c.args.iterate.board.x ≡ Sizes.variables = search rules in (
      omega (arith, length-take {A = Float}),
      le_refl _,
      omega (arith, few (goal.at.select-requires c).Start),
      listed_below c.args.n c.args.iterate.board.state c.requires.3,
    )

pub slice_bounds-x_free-end : goal.slice_bounds-x_free-end
slice_bounds-x_free-end c = omega (arith, few (goal.at.slice_bounds-x_free-end c).Start)

pub ray_step-requires : goal.ray_step-requires
ray_step-requires c =
    let a = c.args in
    let p = c.requires in
    let k = few (goal.at.ray_step-requires c).Start in (
      listed a.n a.iterate.board.state p.3 a.segments p.0 p.1 p.2,
      listed_entries a.n a.iterate.board.state p.3 a.segments _ _ p.5 (omega (arith, length-take {A = Float})) p.4,
    )

pub returns : goal.returns
unfolding along
returns c =
    let a = c.args in
    let p = c.requires in record {
      gives = λ m. rw (← p.5.lower_is, ← p.5.upper_is, ← p.3, ← taken-over _ _ (length-select _ _ _) c.select.ensures) (c.ray_step.ensures.leaves a.n m);
      consistent = c.ray_step.ensures.keeps a.n (listed_below a.n a.iterate.board.state p.3) p.2;
    }

pub slice_bounds-ray_step-end : goal.slice_bounds-ray_step-end
slice_bounds-ray_step-end c = let k = few (goal.at.slice_bounds-ray_step-end c).Start in omega (arith, length-take {A = Float})
