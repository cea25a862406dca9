use Rattle.folds.specs.Kit.{◌≤◌, arith, length, pick}
use Rattle.sizes.specs.Sizes as Sizes
use Rattle.variable_set.specs.Laws.{listed_few, listed_below}
use Rattle.factor_update.specs.Held.{updated}
use Rattle.factor_update.specs.Lists.{updated-same}
use Rattle.factor_update.proofs.updated.Goals as goal
use Rattle.factor_update.proofs.updated.Goals.{Start}

listed-count : (c : Start) → length c.args.indices.now ≤ Sizes.originals
listed-count c = omega (arith, c.requires.0.few, listed_few c.args.originals c.args.indices.now c.requires.3)

pub joins-requires : goal.joins-requires
joins-requires c =
    let p = c.requires in
    (p.0, record { few = p.1.few; l_holds = omega (arith, p.1.l_holds); room_holds = omega (arith, p.1.room_holds) })

pub returns-then-afresh : goal.returns-then-afresh
unfolding updated pick
returns-then-afresh c =
    rw (← updated-same c.args.q.now c.args.n c.args.originals c.requires.0.few c.args.held.now c.args.indices.now
    c.args.l.now c.requires.2 c.requires.3)
    (rw (← c.marks-from.ensures, ← c.joining.ensures.value, ← c.afresh.ensures, c.if-afresh.true))

pub returns : goal.returns
unfolding updated pick
returns c =
    rw (← updated-same c.args.q.now c.args.n c.args.originals c.requires.0.few c.args.held.now c.args.indices.now
    c.args.l.now c.requires.2 c.requires.3)
    (rw (
      ← c.marks-from.ensures,
      ← c.joining.ensures.value,
      ← c.afresh.ensures,
      c.if-afresh.false,
      ← c.marks-wanted.ensures,
      ← c.leaving-stayed.ensures,
    ) c.joins.ensures)

pub marks-from-requires : goal.marks-from-requires
marks-from-requires c = listed_below _ _ c.requires.2 _ c.requires.0.few

pub joining-requires : goal.joining-requires
joining-requires c =
    let s = (goal.at.joining-requires c).Start in
    (listed-count s, listed_below _ _ c.requires.3 _ c.requires.0.few)

pub afresh-requires : goal.afresh-requires
afresh-requires c = omega (arith, c.joining.ensures.upper_bound, listed-count (goal.at.afresh-requires c).Start)

pub marks-wanted-requires : goal.marks-wanted-requires
marks-wanted-requires c = listed_below _ _ c.requires.3 _ c.requires.0.few

pub leaving-stayed-requires : goal.leaving-stayed-requires
leaving-stayed-requires c = c.requires.1
