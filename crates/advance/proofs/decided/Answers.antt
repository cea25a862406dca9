use Rattle.folds.specs.Kit.{◌≡◌, ◌<◌, sym, ◌∙◌, refl, arith, length, rules}
use lib.ListN.{take}
use Rattle.sizes.specs.Sizes as Sizes
use Rattle.segments.specs.Segments.{last, segments_at}
use Rattle.iterate.specs.Laws.{passed-more, passed-optimal, passed-failed, board_is, board_consistent}
use Rattle.release_at.specs.Laws.{release_enters}
use Rattle.advance.specs.Advance.{decided}
use Rattle.advance.specs.Laws.{entered-placed}
use Rattle.advance.proofs.decided.Goals as goal
use Rattle.advance.proofs.decided.Goals.{After-release-outcome, In-Enter, Start}

enters : (c : In-Enter) → (c.in-Enter.i < c.args.counts.n) × (c.in-Enter.segment < last (segments_at c.args.segments c.in-Enter.i))
enters c =
    let a = c.args in
    release_enters a.counts.originals a.counts.n a.counts.m a.q.now a.c.now a.e.now a.segments a.fixed.now
    a.magnitudes.q a.magnitudes.linear (take a.counts.m a.multipliers) a.board c.requires.2 c.in-Enter.i c.in-Enter.segment
    (sym c.in-Enter.is ∙ c.release-outcome.ensures)

pub entered-next-requires : goal.entered-next-requires
entered-next-requires c = omega (arith, (enters (goal.at.entered-next-requires c).In-Enter).0, c.requires.0.variables)

pub returns-in-Enter : goal.returns-in-Enter
unfolding decided
returns-in-Enter c =
    let k = (goal.at.returns-in-Enter c).In-Enter in
    let e = c.ended.ensures in
    let i = e.1 ∙ c.with_board.ensures in
    let states : length c.args.board.state ≡ Sizes.variables = search rules in
    let placed = entered-placed c.args.counts.n c.args.segments _ _ c.args.board
    (omega (arith, (enters k).0, c.requires.0.variables, states)) (enters k).1 c.requires.2 in record {
      result_value = passed-more _ _ c.ended.result e.0
          ∙ rw (i, ← c.release-outcome.ensures, c.in-Enter.is, c.entered-next.ensures);
      consistent = rw (i, c.entered-next.ensures)
          (board_consistent c.args.counts.n c.args.segments c.args.iterate _ _ placed);
    }

pub returns-in-Answer : goal.returns-in-Answer
unfolding decided
returns-in-Answer c =
    let e = c.ended-in-Answer.ensures in
    let w = e.1 ∙ c.with_board-in-Answer.ensures in record {
      result_value = passed-optimal _ _ c.ended-in-Answer.result e.0
          ∙ rw (w, board_is, ← c.release-outcome.ensures, c.in-Answer.is);
      consistent = rw w (board_consistent c.args.counts.n c.args.segments c.args.iterate c.args.board _ c.requires.2);
    }

pub returns-in-NotConverged : goal.returns-in-NotConverged
unfolding decided
returns-in-NotConverged c =
    let e = c.ended-in-NotConverged.ensures in record {
      result_value = passed-failed _ _ c.ended-in-NotConverged.result e.0
          ∙ rw (← c.release-outcome.ensures, c.in-NotConverged.is);
      consistent = rw e.1 c.requires.3;
    }
