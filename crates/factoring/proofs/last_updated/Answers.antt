use Rattle.folds.specs.Kit.{sym}
use lib.Seq.{length-take-le}
use Rattle.factoring.specs.Kept.{last_updated}
use Rattle.factoring.specs.Laws.{some_listed, none_listed}
use Rattle.factoring.proofs.Lists.{Lists, written}
use Rattle.factoring.proofs.last_updated.Goals as goal
use Rattle.factoring.proofs.last_updated.Goals.{After-rising-k, Start}

abbrev start : After-rising-k → Start
start c = (goal.at.After-rising-k c).Start

listed : (c : After-rising-k) → Lists (start c).args.held c.rising-k.result c.rising-k.new.list
listed c = written _ _ c.rising-k.auto.list c.rising-k.ensures.value c.rising-k.ensures.list_after

pub slice_bounds-list-end : goal.slice_bounds-list-end
unfolding last_updated
slice_bounds-list-end c = (listed (goal.at.slice_bounds-list-end c).After-rising-k).few

pub slice_bounds-updated-end : goal.slice_bounds-updated-end
unfolding last_updated
slice_bounds-updated-end c = sym (length-take-le _ _ (listed (goal.at.slice_bounds-updated-end c).After-rising-k).few)

pub updated-requires : goal.updated-requires
unfolding last_updated
updated-requires c =
    let r = (goal.at.updated-requires c).After-rising-k in
    let p = (start r).requires in (p.0, p.1, rw (listed r).lent (p.2 c.if-factored.true), p.3)

pub returns-then-factored : goal.returns-then-factored
unfolding last_updated
returns-then-factored c =
    let r = (goal.at.returns-then-factored c).After-rising-k in
    rw (some_listed _ c.if-factored.true, ← (listed r).lent) c.updated.ensures

pub returns : goal.returns
unfolding last_updated
returns c = rw (none_listed _ c.if-factored.false)
