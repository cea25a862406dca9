use Rattle.std.specs.Prelude.{Float}
use Rattle.std.proofs.Common.{length-take}
use Rattle.folds.specs.Kit.{◌≡◌, sym, ap, ◌∙◌, ◌+◌, ◌≤◌, arith, length, rules, pick_true, pick_false}
use Rattle.sizes.specs.Sizes as Sizes
use lib.Seq.{length-take-le}
use Rattle.bracket.specs.Bracket.{bracket_of, cut, closed}
use Rattle.bracket.specs.Laws.{cut-of, cut-closed}
use Rattle.search_step.specs.Laws.{stepped-found}
use Rattle.multiplier.specs.Search.{cut_step, cut_at}
use Rattle.multiplier.proofs.cut_step.Goals as goal
use Rattle.multiplier.proofs.cut_step.Goals.{After-closed, Start}

fits : (c : Start) → c.args.n ≤ length c.args.bracket.best
fits c =
    let h = c.requires.originals in
    let l : length c.args.bracket.best ≡ Sizes.variables = search rules in omega arith

pub slice_bounds-best-end : goal.slice_bounds-best-end
slice_bounds-best-end c = fits (goal.at.slice_bounds-best-end c).Start

pub slice_bounds-reaches-end : goal.slice_bounds-reaches-end
slice_bounds-reaches-end c = sym (length-take-le _ _ (fits (goal.at.slice_bounds-reaches-end c).Start))

pub reaches-requires : goal.reaches-requires
reaches-requires c = let k = fits (goal.at.reaches-requires c).Start in omega (arith, length-take {A = Float})

pub returns-then-reaches : goal.returns-then-reaches
unfolding cut_step
returns-then-reaches c = pick_true _ _ (sym c.reaches.ensures ∙ c.if-reaches.true) (stepped-found _ _ _)

-- whether the cut is closed
closed-by : (c : After-closed) → let a = c.args in closed (cut a.limit (bracket_of a.n (a.m + a.r) a.bracket)) ≡ c.closed.result
closed-by c =
    let a = c.args in
    cut-closed a.n (a.m + a.r) a.bracket _ a.limit c.cut-next.ensures ∙ sym c.closed.ensures

pub returns-then-closed : goal.returns-then-closed
unfolding cut_step
returns-then-closed c =
    pick_false _ _ (sym c.reaches.ensures ∙ c.if-reaches.false)
    (pick_true _ _ (closed-by (goal.at.returns-then-closed c).After-closed ∙ c.if-closed.true) (stepped-found _ _ _))

pub returns : goal.returns
unfolding cut_step
returns c =
    let a = c.args in
    pick_false _ _ (sym c.reaches.ensures ∙ c.if-reaches.false)
    (pick_false _ _ (closed-by (goal.at.returns c).After-closed ∙ c.if-closed.false)
    (c.cut_at.ensures ∙ ap (cut_at _ _) (cut-of a.n (a.m + a.r) a.bracket _ a.limit c.cut-next.ensures)))
