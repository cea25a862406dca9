use Rattle.folds.specs.Kit.{◌≡◌, arith, length, rules, sym, ◌∙◌, pick}
use lib.Seq.{length-take-le}
use Rattle.sizes.specs.Sizes as Sizes
use Rattle.pivot_choice.specs.Laws.{found-below}
use Rattle.pivoting.specs.Pivoting.{state_of, pivot_step, choose}
use Rattle.pivoting.proofs.pivot_step.Goals as goal
use Rattle.pivoting.proofs.pivot_step.Goals.{Start}

marks : (c : Start) → length c.args.pivots.now.remaining ≡ Sizes.columns
marks c = search rules

pub slice_bounds-largest_column-end : goal.slice_bounds-largest_column-end
slice_bounds-largest_column-end c =
    let s = (goal.at.slice_bounds-largest_column-end c).Start in sym (length-take-le _ _ (omega (arith, c.requires.5, marks s)))

pub returns-in_default : goal.returns-in_default
unfolding state_of pivot_step choose pick
returns-in_default c =
    record {
      pivots_after = rw (← c.largest_column-best.ensures, c.in_default.is);
      rank_value = c.requires.7;
    }

pub returns-then-norm-tolerance : goal.returns-then-norm-tolerance
unfolding state_of pivot_step choose pick
returns-then-norm-tolerance c =
    record {
      pivots_after = rw (← c.largest_column-best.ensures, c.in-Some.is, c.if-norm-tolerance.true);
      rank_value = c.requires.7;
    }

pub taken-requires : goal.taken-requires
taken-requires c =
    let r = c.requires in
    let one = found-below _ _ _ _ _ _ (sym c.in-Some.is ∙ c.largest_column-best.ensures) in
    (r.0, r.1, r.2, r.3, one, r.4, r.5, r.6, r.7)

pub returns : goal.returns
unfolding state_of pivot_step choose pick
returns c =
    record {
      pivots_after = rw (← c.largest_column-best.ensures, c.in-Some.is, c.if-norm-tolerance.false, ← c.taken.ensures.result_after);
      rank_value = c.taken.ensures.rank_value;
    }

pub largest_column-best-requires : goal.largest_column-best-requires
largest_column-best-requires c = (omega arith, omega (arith, slice_bounds-largest_column-end c))
