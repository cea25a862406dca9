use Rattle.folds.specs.Kit.{◌≡◌, ◌≤◌, arith, length, rules}
use Rattle.folds.specs.Cell.{area}
use Rattle.sizes.specs.Sizes as Sizes
use Rattle.variable_set.specs.Laws.{listed_few}
use Rattle.free_problem.specs.Laws.{parts}
use Rattle.free_solve.specs.Laws.{free-system, free-from, regular-from}
use Rattle.free_solve.proofs.solve_free.Goals as goal
use Rattle.free_solve.proofs.solve_free.Goals.{Start}

kept-holds : (c : Start) → c.args.free.columns ≤ length c.args.free.kept
kept-holds c = let k : length c.args.free.kept ≡ Sizes.columns = search rules in omega (arith, c.requires.1.kept_few, c.requires.1.columns)

listed : (c : Start) → length c.args.solved.now ≤ c.args.counts.originals
listed c = listed_few c.args.counts.originals c.args.solved.now c.requires.0.rises

pub solve_updated-requires : goal.solve_updated-requires
solve_updated-requires c =
    let s = (goal.at.solve_updated-requires c).Start in
    let p = c.requires in
    let a = p.0 in (
      regular-from _ a.block.few _ _ _ a.rises _ _ a.good _ c.updated-updated.ensures.l_after
          (omega (arith, area (listed s) (listed s), a.l_holds, c.updated-updated.auto.l)),
      rw c.updated-updated.auto.room p.4,
      p.5,
      p.6,
      p.7,
    )

pub returns-clause-l_after : goal.returns-clause-l_after
returns-clause-l_after c =
    free-from _ _ _ _ _ _ c.updated-updated.ensures.l_after
    (free-system _ _ _ _ _ (kept-holds (goal.at.returns-clause-l_after c).Start))
    (parts _ _ _ _ _).noise_is c.solve_updated.ensures.l_after
