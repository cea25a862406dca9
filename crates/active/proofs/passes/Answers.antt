use Rattle.folds.specs.Kit.{◌≡◌, ◌+◌, ◌-◌, ◌<◌, ◌≤◌, refl, sym, ◌∙◌, arith, kit}
use Rattle.sizes.specs.Sizes as Sizes
use Rattle.iterate.specs.Problem.{problem}
use Rattle.iterate.specs.Iterate.{Consistent}
use Rattle.factoring.specs.Kept.{kept_of, Good}
use Rattle.factoring.specs.Laws.{good-new}
use Rattle.pass.specs.State.{state}
use Rattle.minimum.specs.Counted.{budget}
use Rattle.active.specs.Active.{passes}
use Rattle.active.proofs.Left.{Left, all-left, all-spent, again, ended, Same, same-room}
use Rattle.active.proofs.passes.Goals as goal
use Rattle.active.proofs.passes.Goals.{After-pass-step, In-loop-made}

-- a turn is one of the budget's
under : (c : In-loop-made) → c.loop-made.made < budget c.args.counts.n
under c = rw c.budget-made-end.ensures at c.loop-made-test.true

-- after a pass the lent slices are as long as before the first
lengths : (c : After-pass-step) →
    let n = c.pass-step.new in
    let a = c.args in
    Same n.room n.q_free n.e_free n.gram n.l a.room.now a.q_free.now a.e_free.now a.gram.now a.l.now
lengths c =
    let i = c.loop-made.invariant.1 in
    let k = c.pass-step.auto in
    record {
      of_room = k.room ∙ i.of_room;
      of_q = k.q_free ∙ i.of_q;
      of_e = k.e_free ∙ i.of_e;
      of_gram = k.gram ∙ i.of_gram;
      of_l = k.l ∙ i.of_l;
    }

-- where the budget is spent, and where the last pass was made
pub returns : goal.returns
returns c =
    all-spent _ _ _ _ _ _ _ _ _ _ _ _ _ c.loop-made.invariant.4 (rw c.budget-made-end.ensures at c.loop-made-test.false)

pub returns-in-Some : goal.returns-in-Some
returns-in-Some c =
    let t = (goal.at.returns-in-Some c).In-loop-made in
    ended _ _ _ _ _ _ _ _ _ _ _ _ _ c.loop-made.invariant.4 _ _ (under t) c.pass-step.ensures.l_after _
    (rw c.in-Some.is at c.answered.ensures)

pub pass-step-requires : goal.pass-step-requires
pass-step-requires c =
    let i = c.loop-made.invariant in
    let s = c.requires in (s.0, s.1, i.2, s.3, same-room i.1 s.4, i.3, rw i.1.of_l s.5)

pub loop-made-preserved : goal.loop-made-preserved
loop-made-preserved c =
    let at = goal.at.loop-made-preserved c in
    let e = c.pass-step.ensures in (
      omega (arith, c.loop-made-test.true),
      lengths at.After-pass-step,
      e.consistent.0,
      e.consistent.1,
      again _ _ _ _ _ _ _ _ _ _ _ _ _ c.loop-made.invariant.4 _ _ (under at.In-loop-made) e.l_after
          (rw c.in_default.is at c.answered.ensures),
    )

-- a number of passes fits
counted-fits : (c : In-loop-made) → c.loop-made.made + 1 ≤ budget Sizes.variables
counted-fits c = let v = c.requires.0.variables in omega (arith, under c)

pub budget-made-end-requires : goal.budget-made-end-requires
budget-made-end-requires c = c.requires.0.variables

pub loop-made-init : goal.loop-made-init
loop-made-init c = (
  omega arith,
  record { of_room = refl; of_q = refl; of_e = refl; of_gram = refl; of_l = refl },
  search kit,
  good-new _ _ _ c.new-factoring.ensures,
  all-left _ _ _ _ _ _ _ _ _ _ _ _ _ c.new-factoring.ensures,
)

pub answered-requires : goal.answered-requires
answered-requires c = omega (arith, counted-fits (goal.at.answered-requires c).In-loop-made)
