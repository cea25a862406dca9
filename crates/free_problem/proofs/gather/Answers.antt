use Rattle.folds.specs.Kit.{◌≡◌, ℕ, ◌≤◌, ◌*◌, sym, arith, length}
use native.Mathlib.Nat.{le_refl, le_trans}
use mathlib.Core.List.{List}
use lib.ListN.{take}
use lib.Seq.{length-take-le}
use Rattle.folds.specs.Tab.{taken-over}
use Rattle.folds.specs.Cell.{area}
use Rattle.sizes.specs.Sizes as Sizes
use Rattle.vector.specs.Vector.{Below}
use Rattle.vector.specs.Laws.{length-select}
use Rattle.slack_rows.specs.SlackRows.{kept_columns}
use Rattle.slack_rows.specs.Laws.{kept_few, kept_below}
use Rattle.iterate.specs.Problem.{first_slack_column}
use Rattle.free_problem.specs.Laws.{gather-from}
use Rattle.free_problem.proofs.gather.Goals as goal
use Rattle.free_problem.proofs.gather.Goals.{After-kept_columns-columns, After-linear, After-residuals_at, After-submatrix-2, Start}

-- ---- the columns kept, at most m
module _ (c : After-kept_columns-columns) where
  abbrev columns : List ℕ
  columns =
      let s = c.args in
      let k = s.counts in
      kept_columns s.e.now k.n k.m s.solved.now s.slacks.now k.originals (first_slack_column k.originals k.n k.m)

  counted : c.kept_columns-columns.result ≡ length columns
  counted = c.kept_columns-columns.ensures.value

  listed : take c.kept_columns-columns.result c.kept_columns-columns.new.kept ≡ columns
  listed = taken-over _ _ (sym counted) c.kept_columns-columns.ensures.kept_after

  few : c.kept_columns-columns.result ≤ c.args.counts.m
  few = rw counted (kept_few _ _ _ _ _ _ _)

  below : Below c.kept_columns-columns.result (take c.kept_columns-columns.result c.kept_columns-columns.new.kept) c.args.counts.m
  below = rw (listed, counted) (kept_below _ _ _ _ _ _ _)

  kept-fits : c.kept_columns-columns.result ≤ length c.kept_columns-columns.new.kept
  kept-fits = rw c.kept_columns-columns.auto.kept (le_trans few c.requires.0.columns)

-- ---- what each list that is lent in part holds
solved-few : (c : Start) → length c.args.solved.now ≤ Sizes.originals
solved-few c = le_trans c.requires.4 c.requires.0.few

rows_fit : (c : After-submatrix-2) → length c.args.solved.now * c.args.counts.n ≤ length c.submatrix-2.new.room
rows_fit c =
    let p = c.requires in
    rw (c.submatrix-2.auto.room, c.submatrix.auto.room) (le_trans (area p.4 (le_refl _)) p.6)

c-fits : (c : After-linear) → length c.args.solved.now ≤ length c.linear.new.y
c-fits c = rw c.linear.auto.y (solved-few (goal.at.After-linear c).Start)

residuals-fit : (c : After-residuals_at) → c.args.counts.m ≤ length c.residuals_at.new.y
residuals-fit c = rw c.residuals_at.auto.y c.requires.0.columns

-- ---- the calls
pub overflow_mul-rows : goal.overflow_mul-rows
overflow_mul-rows c =
    let h : _ ≤ Sizes.originals * Sizes.variables = area (solved-few (goal.at.overflow_mul-rows c).Start) c.requires.0.variables in omega (arith, h)

pub submatrix-requires : goal.submatrix-requires
submatrix-requires c =
    let k = (goal.at.submatrix-requires c).After-kept_columns-columns in
    let p = c.requires in (
      p.0.e_holds,
      p.2.below,
      rw (listed k) (kept_below _ _ _ _ _ _ _),
      le_trans (area p.4 (le_refl _)) p.7,
      le_trans (area p.4 (rw (listed k) (kept_few _ _ _ _ _ _ _))) p.9,
    )

pub submatrix-requires-2 : goal.submatrix-requires-2
submatrix-requires-2 c =
    let p = c.requires in (
      p.0.q_holds,
      p.2.below,
      p.2.below,
      rw c.submatrix.auto.room (le_trans (area p.4 (le_refl _)) p.6),
      le_trans (area p.4 p.4) p.8,
    )

pub linear-requires : goal.linear-requires
linear-requires c =
    let f = solved-few (goal.at.linear-requires c).Start in
    let p = c.requires in (p.0.c_holds, f, p.2.below, p.5, f)

pub gradient-requires : goal.gradient-requires
gradient-requires c =
    let l = goal.at.gradient-requires c in (
      solved-few l.Start,
      rw (length-take-le _ _ (rows_fit l.After-submatrix-2)) (le_refl _),
      rw (length-take-le _ _ (c-fits l.After-linear)) (le_refl _),
      c.requires.1,
      solved-few l.Start,
    )

pub residuals_at-requires : goal.residuals_at-requires
residuals_at-requires c =
    let p = c.requires in (p.0.columns, p.0.e_holds, p.0.b_holds, p.1, p.0.columns)

pub select-requires : goal.select-requires
select-requires c =
    let r = goal.at.select-requires c in
    let k = r.After-kept_columns-columns in (
      rw (length-take-le _ _ (residuals-fit r.After-residuals_at)) (le_refl _),
      rw (length-take-le _ _ (kept-fits k)) (le_refl _),
      le_trans (few k) c.requires.0.columns,
      below k,
    )

pub step_noise-noise-requires : goal.step_noise-noise-requires
step_noise-noise-requires c =
    let l = goal.at.step_noise-noise-requires c in
    let p = c.requires in (
      omega (arith, solved-few l.Start),
      p.0.variables,
      rw (length-take-le _ _ (rows_fit l.After-submatrix-2)) (le_refl _),
      le_trans p.0.within p.1,
      rw (length-take-le _ _ (c-fits l.After-linear)) (le_refl _),
    )

pub returns : goal.returns
returns c =
    let k = (goal.at.returns c).After-kept_columns-columns in
    record {
      e_free_after = gather-from _ _ _ _ _ _ _ _ _ _ _ _ _ _ (counted k) (listed k) c.submatrix-2.ensures.room_after c.submatrix-2.ensures.y_after
          c.submatrix.ensures.y_after c.linear.ensures c.gradient.ensures c.residuals_at.ensures
          (taken-over _ _ (length-select _ _ _) c.select.ensures) c.step_noise-noise.ensures;
      lists = record {
        few = solved-few (goal.at.returns c).Start;
        columns = c.requires.0.columns;
        kept_few = few k;
        kept_below = below k;
      };
    }

pub slice_bounds-kept-end : goal.slice_bounds-kept-end
slice_bounds-kept-end c = kept-fits (goal.at.slice_bounds-kept-end c).After-kept_columns-columns

pub slice_bounds-submatrix-end : goal.slice_bounds-submatrix-end
slice_bounds-submatrix-end c = sym (length-take-le _ _ (kept-fits (goal.at.slice_bounds-submatrix-end c).After-kept_columns-columns))

pub slice_bounds-gradient-end : goal.slice_bounds-gradient-end
slice_bounds-gradient-end c = rows_fit (goal.at.slice_bounds-gradient-end c).After-submatrix-2

pub slice_bounds-gradient-end-2 : goal.slice_bounds-gradient-end-2
slice_bounds-gradient-end-2 c = sym (length-take-le _ _ (rows_fit (goal.at.slice_bounds-gradient-end-2 c).After-submatrix-2))

pub slice_bounds-c_free-end : goal.slice_bounds-c_free-end
slice_bounds-c_free-end c = c-fits (goal.at.slice_bounds-c_free-end c).After-linear

pub slice_bounds-gradient-end-3 : goal.slice_bounds-gradient-end-3
slice_bounds-gradient-end-3 c = sym (length-take-le _ _ (c-fits (goal.at.slice_bounds-gradient-end-3 c).After-linear))

pub slice_bounds-residuals-end : goal.slice_bounds-residuals-end
slice_bounds-residuals-end c = residuals-fit (goal.at.slice_bounds-residuals-end c).After-residuals_at

pub slice_bounds-select-end : goal.slice_bounds-select-end
slice_bounds-select-end c = sym (length-take-le _ _ (residuals-fit (goal.at.slice_bounds-select-end c).After-residuals_at))

pub slice_bounds-kept-end-2 : goal.slice_bounds-kept-end-2
slice_bounds-kept-end-2 c = kept-fits (goal.at.slice_bounds-kept-end-2 c).After-kept_columns-columns

pub slice_bounds-select-end-2 : goal.slice_bounds-select-end-2
slice_bounds-select-end-2 c = sym (length-take-le _ _ (kept-fits (goal.at.slice_bounds-select-end-2 c).After-kept_columns-columns))

pub slice_bounds-step_noise-end : goal.slice_bounds-step_noise-end
slice_bounds-step_noise-end c = rows_fit (goal.at.slice_bounds-step_noise-end c).After-submatrix-2

pub slice_bounds-step_noise-end-2 : goal.slice_bounds-step_noise-end-2
slice_bounds-step_noise-end-2 c = sym (length-take-le _ _ (rows_fit (goal.at.slice_bounds-step_noise-end-2 c).After-submatrix-2))

pub slice_bounds-c_free-end-2 : goal.slice_bounds-c_free-end-2
slice_bounds-c_free-end-2 c = c-fits (goal.at.slice_bounds-c_free-end-2 c).After-linear

pub slice_bounds-step_noise-end-3 : goal.slice_bounds-step_noise-end-3
slice_bounds-step_noise-end-3 c = sym (length-take-le _ _ (c-fits (goal.at.slice_bounds-step_noise-end-3 c).After-linear))
