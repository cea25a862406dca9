use Rattle.folds.specs.Kit.{◌≡◌, ◌≤◌, ◌*◌, sym, ◌∙◌, arith, length, rules}
use native.Mathlib.Nat.{le_of_eq, le_trans}
use lib.Seq.{length-take-le}
use Rattle.folds.specs.Cell.{area}
use Rattle.sizes.specs.Sizes as Sizes
use Rattle.variable_set.specs.Laws.{listed_few}
use Rattle.free_list.specs.Laws.{free-few, listed, taken-entries, ends-taken}
use Rattle.pass.specs.State.{made_beside}
use Rattle.pass.specs.Laws.{free-from}
use Rattle.pass.proofs.free_pass.Goals as goal
use Rattle.pass.proofs.free_pass.Goals.{After-ends_and_slopes, After-gather-free, After-solve_free-s, Start}

-- ---- what each array that is lent in part holds
indices-few : (c : Start) → length c.args.indices.now ≤ Sizes.variables
indices-few c = rw c.requires.4.free (le_trans (free-few _ _) c.requires.0.variables)

solved-fit : (c : Start) → length c.args.solved.now ≤ length c.args.indices.now
solved-fit c = let h = c.requires.4.counted in omega arith

x_fits : (c : Start) → c.args.counts.n ≤ length c.args.iterate.board.x
x_fits c = let e : length c.args.iterate.board.x ≡ Sizes.variables = search rules in rw e c.requires.0.variables

lower-fits : (c : After-ends_and_slopes) → length c.args.indices.now ≤ length c.ends_and_slopes.new.lower
lower-fits c = rw c.ends_and_slopes.auto.lower (indices-few (goal.at.After-ends_and_slopes c).Start)

upper_fits : (c : After-ends_and_slopes) → length c.args.indices.now ≤ length c.ends_and_slopes.new.upper
upper_fits c = rw c.ends_and_slopes.auto.upper (indices-few (goal.at.After-ends_and_slopes c).Start)

slope-holds : (c : After-ends_and_slopes) → length c.args.indices.now ≤ length c.ends_and_slopes.new.slope
slope-holds c = rw c.ends_and_slopes.auto.slope (indices-few (goal.at.After-ends_and_slopes c).Start)

slope-fits : (c : After-ends_and_slopes) → length c.args.solved.now ≤ length c.ends_and_slopes.new.slope
slope-fits c = le_trans (solved-fit (goal.at.After-ends_and_slopes c).Start) (slope-holds c)

-- ---- what the gathering leaves of the lent memory
solved-few : (c : Start) → length c.args.solved.now ≤ c.args.counts.originals
solved-few c = listed_few _ _ c.requires.5

square-fits : (c : After-gather-free) → let k = length c.args.solved.now in k * k ≤ length c.gather-free.new.q_free
square-fits c =
    let few = solved-few (goal.at.After-gather-free c).Start in
    rw c.gather-free.auto.q_free (le_trans (area few few) c.requires.6.q_free_holds)

entries-few : (c : After-gather-free) → length c.args.solved.now * c.gather-free.result.columns ≤ c.args.counts.originals * c.args.counts.m
entries-few c = area (solved-few (goal.at.After-gather-free c).Start) c.gather-free.ensures.lists.kept_few

entries_fit : (c : After-gather-free) → length c.args.solved.now * c.gather-free.result.columns ≤ length c.gather-free.new.e_free
entries_fit c = rw c.gather-free.auto.e_free (le_trans (entries-few c) c.requires.6.e_free_holds)

-- ---- what the solve is lent, and leaves
solved-fits : (c : Start) → length c.args.solved.now ≤ Sizes.originals
solved-fits c = le_trans (solved-few c) c.requires.0.few

kept-fits : (c : After-gather-free) → c.gather-free.result.columns ≤ Sizes.columns
kept-fits c = le_trans c.gather-free.ensures.lists.kept_few c.requires.0.columns

delta-fits : (c : After-solve_free-s) → length c.args.solved.now ≤ length c.solve_free-s.new.x
delta-fits c = rw c.solve_free-s.auto.x (solved-fits (goal.at.After-solve_free-s c).Start)

multipliers-fit : (c : After-solve_free-s) → c.gather-free.result.columns ≤ length c.solve_free-s.new.multipliers
multipliers-fit c = rw c.solve_free-s.auto.multipliers (kept-fits (goal.at.After-solve_free-s c).After-gather-free)

-- ---- the calls
pub ends_and_slopes-requires : goal.ends_and_slopes-requires
ends_and_slopes-requires c =
    let s = (goal.at.ends_and_slopes-requires c).Start in
    let p = c.requires in
    let i = indices-few s in (listed _ _ p.4.free _ p.0.variables p.1 p.2.placed, i, i, i)

pub slice_bounds-gather-end : goal.slice_bounds-gather-end
slice_bounds-gather-end c = sym (length-take-le _ _ (x_fits (goal.at.slice_bounds-gather-end c).Start))

pub slice_bounds-gather-end-2 : goal.slice_bounds-gather-end-2
slice_bounds-gather-end-2 c = sym (length-take-le _ _ (slope-fits (goal.at.slice_bounds-gather-end-2 c).After-ends_and_slopes))

pub gather-free-requires : goal.gather-free-requires
gather-free-requires c =
    let at = goal.at.gather-free-requires c in
    let p = c.requires in (
      p.0,
      le_of_eq (sym (length-take-le _ _ (x_fits at.Start))),
      p.4.solved_are,
      p.4.slacks_are,
      listed_few _ _ p.5,
      le_of_eq (sym (length-take-le _ _ (slope-fits at.After-ends_and_slopes))),
      p.6.rows,
      p.6.columns,
      p.6.q_free_holds,
      p.6.e_free_holds,
    )

pub solve_free-s-requires : goal.solve_free-s-requires
solve_free-s-requires c =
    let at = goal.at.solve_free-s-requires c in
    let g = at.After-gather-free in
    let p = c.requires in
    let few = c.gather-free.ensures.lists.kept_few in
    let room = c.gather-free.auto.room in (
      record {
        block = record { few = p.0.few; within = p.0.within; q_holds = p.0.q_holds };
        rises = p.5;
        good = p.7;
        l_holds = p.8;
        room_holds = rw room p.6.rows;
      },
      c.gather-free.ensures.lists,
      square-fits g,
      entries_fit g,
      rw room (le_trans (entries-few g) p.6.columns),
      le_trans (area few few) p.6.gram_room,
      solved-fits at.Start,
      kept-fits g,
    )

pub slice_bounds-step-end-3 : goal.slice_bounds-step-end-3
slice_bounds-step-end-3 c = sym (length-take-le _ _ (lower-fits (goal.at.slice_bounds-step-end-3 c).After-ends_and_slopes))

pub slice_bounds-step-end-4 : goal.slice_bounds-step-end-4
slice_bounds-step-end-4 c = sym (length-take-le _ _ (upper_fits (goal.at.slice_bounds-step-end-4 c).After-ends_and_slopes))

pub step-passed-requires : goal.step-passed-requires
step-passed-requires c =
    let at = goal.at.step-passed-requires c in
    let r = at.After-solve_free-s in
    let g = at.After-gather-free in
    let a = c.ends_and_slopes.ensures in
    let p = c.requires in (
      record {
        within = p.0.within;
        variables = p.0.variables;
        columns = p.0.columns;
        q_holds = p.0.q_holds;
        c_holds = p.0.c_holds;
        e_holds = p.0.e_holds;
      },
      p.1,
      p.2,
      p.3,
      p.4,
      c.gather-free.ensures.lists,
      length-take-le _ _ (delta-fits r),
      length-take-le _ _ (multipliers-fit r),
      square-fits g,
      entries_fit g,
      ends-taken _ _ _ _ _ p.4.free a.0 a.1,
    )

pub returns : goal.returns
returns c =
    let at = goal.at.returns c in
    let r = c.solve_free-s in
    let e = c.step-passed.ensures in record {
      l_after = made_beside _ _ _ _
          ∙ free-from _ _ _ _ _ _ _ _ _ _ _ _ _ _ _ _ r.result _ _ _ c.gather-free.ensures.e_free_after
          (rw (← c.requires.4.free) (taken-entries _ _ _ _ _ _ _ (solved-fit at.Start) (slope-holds at.After-ends_and_slopes) c.ends_and_slopes.ensures.2))
          r.ensures.l_after e.result_value;
      consistent = (e.consistent, r.ensures.good);
    }

pub slice_bounds-x-end : goal.slice_bounds-x-end
slice_bounds-x-end c = x_fits (goal.at.slice_bounds-x-end c).Start

pub slice_bounds-slope-end : goal.slice_bounds-slope-end
slice_bounds-slope-end c = slope-fits (goal.at.slice_bounds-slope-end c).After-ends_and_slopes

pub slice_bounds-delta-end : goal.slice_bounds-delta-end
slice_bounds-delta-end c = delta-fits (goal.at.slice_bounds-delta-end c).After-solve_free-s

pub slice_bounds-step-end : goal.slice_bounds-step-end
slice_bounds-step-end c = sym (length-take-le _ _ (delta-fits (goal.at.slice_bounds-step-end c).After-solve_free-s))

pub slice_bounds-multipliers-end : goal.slice_bounds-multipliers-end
slice_bounds-multipliers-end c = multipliers-fit (goal.at.slice_bounds-multipliers-end c).After-solve_free-s

pub slice_bounds-step-end-2 : goal.slice_bounds-step-end-2
slice_bounds-step-end-2 c = sym (length-take-le _ _ (multipliers-fit (goal.at.slice_bounds-step-end-2 c).After-solve_free-s))

pub slice_bounds-lower-end : goal.slice_bounds-lower-end
slice_bounds-lower-end c = lower-fits (goal.at.slice_bounds-lower-end c).After-ends_and_slopes

pub slice_bounds-upper-end : goal.slice_bounds-upper-end
slice_bounds-upper-end c = upper_fits (goal.at.slice_bounds-upper-end c).After-ends_and_slopes
