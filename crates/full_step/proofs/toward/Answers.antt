use Rattle.std.specs.Prelude.{Float}
use Rattle.std.proofs.Common.{length-take}
use Rattle.folds.specs.Kit.{◌≡◌, ◌≤◌, arith, length, rules}
use native.Mathlib.Nat.{le_refl}
use Rattle.folds.specs.Tab.{taken-over}
use Rattle.sizes.specs.Sizes as Sizes
use Rattle.vector.specs.Laws.{length-add, length-select}
use Rattle.free_list.specs.Laws.{listed_below}
use Rattle.full_step.specs.FullStep.{toward}
use Rattle.full_step.specs.Laws.{listed_few, listed_entries}
use Rattle.full_step.proofs.toward.Goals as goal
use Rattle.full_step.proofs.toward.Goals.{Start}

few : (c : Start) → length c.args.indices.now ≤ Sizes.variables
few c = omega (arith, listed_few c.args.counts.n c.args.iterate.board.state c.requires.4, c.requires.0.variables)

pub select-requires : goal.select-requires
select-requires c =
    let e : length c.args.iterate.board.x ≡ Sizes.variables = search rules in (
      omega (arith, length-take {A = Float}),
      le_refl _,
      omega (arith, few (goal.at.select-requires c).Start),
      listed_below c.args.counts.n c.args.iterate.board.state c.requires.4,
    )

pub slice_bounds-x_free-end : goal.slice_bounds-x_free-end
slice_bounds-x_free-end c = omega (arith, few (goal.at.slice_bounds-x_free-end c).Start)

pub add-requires : goal.add-requires
add-requires c =
    let k = few (goal.at.add-requires c).Start in
    (omega (arith, length-take {A = Float}), c.requires.6, omega arith)

pub slice_bounds-target-end : goal.slice_bounds-target-end
slice_bounds-target-end c = omega (arith, few (goal.at.slice_bounds-target-end c).Start)

pub step_tolerance-tolerance-requires : goal.step_tolerance-tolerance-requires
step_tolerance-tolerance-requires c =
    let k = few (goal.at.step_tolerance-tolerance-requires c).Start in
    (omega (arith, length-take {A = Float}), omega (arith, c.requires.0.within, length-take {A = Float}))

pub stepped-requires : goal.stepped-requires
stepped-requires c =
    let a = c.args in
    let p = c.requires in
    let k = few (goal.at.stepped-requires c).Start in (
      p.0,
      p.1,
      p.2,
      p.3,
      p.4,
      listed_entries a.counts.n a.iterate.board.state p.4 a.segments _ _ p.7 (omega (arith, length-take {A = Float}))
          (omega (arith, length-take {A = Float})),
    )

pub returns : goal.returns
unfolding toward
returns c =
    let p = c.requires in record {
      result_value = rw (
        ← p.7.lower_is,
        ← p.7.upper_is,
        ← p.4,
        ← taken-over _ _ (length-select _ _ _) c.select.ensures,
        ← taken-over _ _ (length-add _ _ _) c.add.ensures,
        ← c.step_tolerance-tolerance.ensures,
      )
          c.stepped.ensures.result_value;
      consistent = c.stepped.ensures.consistent;
    }

pub slice_bounds-add-end : goal.slice_bounds-add-end
slice_bounds-add-end c = let k = few (goal.at.slice_bounds-add-end c).Start in omega (arith, length-take {A = Float})

pub slice_bounds-step_tolerance-end : goal.slice_bounds-step_tolerance-end
slice_bounds-step_tolerance-end c = let k = few (goal.at.slice_bounds-step_tolerance-end c).Start in omega (arith, length-take {A = Float})

pub slice_bounds-x_free-end-2 : goal.slice_bounds-x_free-end-2
slice_bounds-x_free-end-2 c = let k = few (goal.at.slice_bounds-x_free-end-2 c).Start in omega (arith, length-take {A = Float})

pub slice_bounds-stepped-end : goal.slice_bounds-stepped-end
slice_bounds-stepped-end c = let k = few (goal.at.slice_bounds-stepped-end c).Start in omega (arith, length-take {A = Float})

pub slice_bounds-target-end-2 : goal.slice_bounds-target-end-2
slice_bounds-target-end-2 c = let k = few (goal.at.slice_bounds-target-end-2 c).Start in omega (arith, length-take {A = Float})

pub slice_bounds-stepped-end-2 : goal.slice_bounds-stepped-end-2
slice_bounds-stepped-end-2 c = let k = few (goal.at.slice_bounds-stepped-end-2 c).Start in omega (arith, length-take {A = Float})
