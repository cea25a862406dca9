use Rattle.std.specs.Prelude.{Float, take}
use Rattle.std.proofs.Common.{length-take}
use Rattle.folds.specs.Kit.{◌≡◌, refl, sym, ap, ◌∙◌, ◌+◌, ◌≤◌, arith, length, rules}
use lib.Seq.{length-take-le}
use Rattle.sizes.specs.Sizes as Sizes
use Rattle.minimum.specs.Laws.{minimized_of-ok, minimized_of-err, capped_of-ok, capped_of-err}
use Rattle.bracket.specs.Ends.{new-rising}
use Rattle.bracket.specs.Laws.{new-of}
use Rattle.search_step.specs.Step.{ended_of, accepted}
use Rattle.minimum.specs.Minimized.{minimized_of}
use Rattle.multiplier.specs.Search.{problem}
use Rattle.cap.specs.Capped.{search_by}
use Rattle.cap.specs.Laws.{search_free, search_past, search_unbounded, search-broken}
use Rattle.cap.proofs.search_by.Goals as goal
use Rattle.cap.proofs.search_by.Goals.{In-Ok, After-reach_and_narrow, in-Ok+else-within, in-Err+in-Unbounded}

fits : (c : In-Ok) → c.args.n ≤ length c.in-Ok.optimum.x
fits c =
    let h = c.requires.0.originals in
    let l : length c.in-Ok.optimum.x ≡ Sizes.variables = search rules in omega arith

pub slice_bounds-turnover-end : goal.slice_bounds-turnover-end
slice_bounds-turnover-end c = sym (length-take-le _ _ (fits (goal.at.slice_bounds-turnover-end c).In-Ok))

pub turnover-value-requires : goal.turnover-value-requires
turnover-value-requires c =
    let p = c.requires.0 in
    let k = fits (goal.at.turnover-value-requires c).In-Ok in
    (omega (arith, p.originals), omega (arith, length-take {A = Float}), p.at_holds)

pub slice_bounds-within-end : goal.slice_bounds-within-end
slice_bounds-within-end c = sym (length-take-le _ _ (fits (goal.at.slice_bounds-within-end c).In-Ok))

pub returns-then-within : goal.returns-then-within
returns-then-within c =
    rw (c.in-Ok.is, minimized_of-ok)
    (search_free _ _ _ _ _ _ _ _ _ _ _ _ _ _ _ _ _ _ _ _ c.turnover-value.ensures (sym c.within.ensures ∙ c.if-within.true)
    (capped_of-ok _ _ _))

pub slice_bounds-x-end : goal.slice_bounds-x-end
slice_bounds-x-end c = fits (goal.at.slice_bounds-x-end c).In-Ok

pub within-requires : goal.within-requires
within-requires c = let k = fits (goal.at.within-requires c).In-Ok in omega (arith, length-take {A = Float})

pub returns-in_default : goal.returns-in_default
returns-in_default c =
    rw (c.in-Err.is, minimized_of-err)
    (capped_of-err _ _ _ ∙ search-broken _ _ _ _ _ _ _ _ _ _ _ _ _ _ _ _ _ _ c.in_default.not-Unbounded)

pub reach_and_narrow-requires : goal.reach_and_narrow-requires
reach_and_narrow-requires c =
    let p = c.requires in (
      p.0,
      elim c.match-solved.branch [
        | in-Ok+else-within w ↦ rw (w.bracket-is, w.new-bracket.ensures) (new-rising _ _ _ _ p.1)
        | in-Err+in-Unbounded w ↦ rw (w.bracket-is, w.new.ensures) (new-rising _ _ _ _ p.1)
      ],
    )

-- what the search from the bracket answers is the definition's, wherever the bracket starts
searched : (c : After-reach_and_narrow) →
    let a = c.args in
    accepted (ended_of a.n (a.m + a.r) c.reach_and_narrow.result) ≡
    search_by (problem a.n a.m a.r a.q.now a.c.now a.e.now a.b.now a.lower.now a.upper.now a.a.now a.row_lower.now a.row_upper.now a.at.now a.slopes.now)
    a.limit a.first (take a.n a.warm) (minimized_of a.n (a.m + a.r) a.solved)
searched c =
    let a = c.args in
    let k : a.m + a.r ≤ Sizes.columns = omega (arith, c.requires.0.equalities, c.requires.0.rows) in
    elim c.match-solved.branch [
      | in-Ok+else-within w ↦
          rw (w.in-Ok.is, minimized_of-ok)
          (search_past _ _ _ _ _ _ _ _ _ _ _ _ _ _ _ _ _ _ _ _ w.turnover-value.ensures (sym w.within.ensures ∙ w.if-within.false)
          (new-of a.n (a.m + a.r) _ _ _ (w.bracket-is ∙ w.new-bracket.ensures) k)
          c.reach_and_narrow.ensures refl)
      | in-Err+in-Unbounded w ↦
          rw (w.in-Err.is, minimized_of-err, w.in-Unbounded.is)
          (search_unbounded _ _ _ _ _ _ _ _ _ _ _ _ _ _ _ _ _ w.infinity.ensures
          (new-of a.n (a.m + a.r) _ _ _ (w.bracket-is ∙ w.new.ensures) k)
          c.reach_and_narrow.ensures refl)
    ]

pub returns : goal.returns
returns c = c.accepted.ensures _ _ ∙ searched (goal.at.returns c).After-reach_and_narrow
