use Rattle.folds.specs.Kit.{◌≡◌, ◌≤◌, arith, length}
use Rattle.folds.specs.Cell.{area}
use native.Mathlib.Nat.{le_refl}
use Rattle.variable_set.specs.Laws.{listed_few, listed_below, rising_wider}
use Rattle.factoring.specs.Kept.{Factor, factor, update, settled, kept_of}
use Rattle.factoring.specs.Laws.{good-rises, update-good}
use Rattle.factoring.proofs.Factoring.update.Goals as goal
use Rattle.factoring.proofs.Factoring.update.Goals.{Start}

listed : (c : Start) → length c.args.indices.now ≤ c.args.originals
listed c = listed_few c.args.originals c.args.indices.now c.requires.rises

pub last_updated-requires : goal.last_updated-requires
last_updated-requires c =
    let p = c.requires in (
      p.block,
      record {
        few = p.block.few;
        l_holds = p.l_holds;
        room_holds = omega (arith, area (le_refl c.args.originals) p.block.within, p.room_holds);
      },
      good-rises _ _ p.good,
      p.rises,
    )

pub afresh-requires : goal.afresh-requires
afresh-requires c =
    let s = (goal.at.afresh-requires c).Start in
    let p = c.requires in (
      p.block.q_holds,
      rising_wider _ _ p.rises _ p.block.few,
      listed_below _ _ p.rises _ p.block.within,
      omega (arith, area (listed s) (listed s), p.l_holds),
      omega (arith, area (listed s) (le_refl c.args.n), p.room_holds),
    )

abbrev updated : Start → Factor
updated s = update s.args.q.now s.args.n s.args.indices.now (kept_of s.args.self) s.args.l.now

pub returns-then-last_updated : goal.returns-then-last_updated
unfolding update settled kept_of
returns-then-last_updated c =
    let s = (goal.at.returns-then-last_updated c).Start in
    let h = c.with_factor.ensures in
    let e : factor (kept_of c.with_factor.result) c.last_updated.new.l ≡ updated s = rw (
      ← c.last_updated.ensures,
      c.if-last_updated.true,
      h,
    ) in
    record {
      l_after = e;
      good = update-good _ c.requires.block.few _ _ _ c.requires.rises _ _ c.requires.good _ e;
    }

pub returns : goal.returns
unfolding update settled kept_of
returns c =
    let s = (goal.at.returns c).Start in
    let h = c.afresh.ensures in
    let e : factor (kept_of c.afresh.result) c.afresh.new.l ≡ updated s =
    rw (← c.last_updated.ensures, c.if-last_updated.false) h in
    record {
      l_after = e;
      good = update-good _ c.requires.block.few _ _ _ c.requires.rises _ _ c.requires.good _ e;
    }

pub with_factor-requires : goal.with_factor-requires
with_factor-requires c = rising_wider _ _ c.requires.rises _ c.requires.block.few
