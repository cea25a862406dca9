use Rattle.std.specs.Prelude.{Float}
use Rattle.std.proofs.Common.{length-take}
use Rattle.folds.specs.Kit.{◌≤◌, sym, ◌∙◌, arith, length}
use mathlib.Core.Path.{subst}
use Rattle.folds.specs.Tab.{taken-over}
use Rattle.sizes.specs.Sizes as Sizes
use Rattle.vector.specs.Laws.{length-sub}
use Rattle.segments.specs.Segments.{AllPlaced}
use Rattle.free_list.specs.Laws.{listed_below, listed}
use Rattle.step_length.specs.Laws.{passed-below}
use Rattle.blocking.specs.declared.Board.{Board}
use Rattle.advance.specs.Laws.{settled-placed}
use Rattle.full_step.specs.FullStep.{at_blocking, stepped}
use Rattle.full_step.specs.Laws.{listed_few}
use Rattle.full_step.proofs.stepped.Goals as goal
use Rattle.full_step.proofs.stepped.Goals.{Start}

few : (c : Start) → length c.args.indices.now ≤ Sizes.variables
few c = omega (arith, listed_few c.args.counts.n c.args.iterate.board.state c.requires.4, c.requires.0.variables)

pub settled-next-requires : goal.settled-next-requires
settled-next-requires c =
    let p = c.requires in (
      λ i h. omega (arith, listed_below c.args.counts.n c.args.iterate.board.state p.4 i h, p.0.variables),
      p.5.d_holds,
      p.5.lower_holds,
      p.5.upper_holds,
    )

pub decided-requires : goal.decided-requires
decided-requires c =
    let a = c.args in
    let p = c.requires in (
      p.0,
      p.1,
      subst (λ (b : Board). AllPlaced a.counts.n a.segments b.state) (sym c.settled-next.ensures)
          (settled-placed a.counts.n a.segments _ _ _ _ _ a.iterate.board p.2.placed),
      p.2,
      p.3,
    )

pub returns-in_default : goal.returns-in_default
unfolding stepped at_blocking
returns-in_default c =
    record {
      result_value = rw (← c.first_passed-hit.ensures, c.in_default.is, ← c.settled-next.ensures) c.decided.ensures.result_value;
      consistent = c.decided.ensures.consistent;
    }

pub sub-requires : goal.sub-requires
sub-requires c =
    let h = c.requires.5 in
    (omega (arith, h.x_holds, h.d_holds), omega (arith, h.x_holds, h.d_holds), omega (arith, few (goal.at.sub-requires c).Start))

pub slice_bounds-direction-end : goal.slice_bounds-direction-end
slice_bounds-direction-end c = omega (arith, few (goal.at.slice_bounds-direction-end c).Start)

pub blocked_pass-requires : goal.blocked_pass-requires
blocked_pass-requires c =
    let a = c.args in
    let p = c.requires in
    let v = c.in-Some in
    let k = few (goal.at.blocked_pass-requires c).Start in (
      listed a.counts.n a.iterate.board.state p.4 a.segments p.0.variables p.1 p.2.placed,
      record {
        x_holds = p.5.x_holds;
        d_holds = omega (arith, length-take {A = Float});
        lower_holds = p.5.lower_holds;
        upper_holds = p.5.upper_holds;
      },
      passed-below (length a.indices.now) a.x_free.now a.target.now a.lower.now a.upper.now v.step v.k
          v.side a.tolerance (sym v.is ∙ c.first_passed-hit.ensures),
    )

pub returns : goal.returns
unfolding stepped at_blocking
returns c =
    let a = c.args in
    let p = c.requires in record {
      result_value = c.blocked_pass.ensures.leaves a.counts.n a.counts.m
          ∙ rw (← c.first_passed-hit.ensures, c.in-Some.is, taken-over _ _ (length-sub _ _ _) c.sub.ensures);
      consistent = c.blocked_pass.ensures.keeps a.counts.n (listed_below a.counts.n a.iterate.board.state p.4) p.2.placed;
    }

pub slice_bounds-blocked_pass-end : goal.slice_bounds-blocked_pass-end
slice_bounds-blocked_pass-end c = let k = few (goal.at.slice_bounds-blocked_pass-end c).Start in omega (arith, length-take {A = Float})
