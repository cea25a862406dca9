use Rattle.folds.specs.Kit.{sym}
use Rattle.folds.specs.Marks.{rising-below}
use lib.Seq.{length-take-le}
use Rattle.sizes.specs.Sizes as Sizes
use Rattle.factoring.specs.Kept.{contains_singular}
use Rattle.factoring.specs.Laws.{some_listed, none_listed}
use Rattle.factoring.proofs.Lists.{Lists, written}
use Rattle.factoring.proofs.contains_singular.Goals as goal
use Rattle.factoring.proofs.contains_singular.Goals.{After-rising-k, Start}

abbrev start : After-rising-k → Start
start c = (goal.at.After-rising-k c).Start

listed : (c : After-rising-k) → Lists (start c).args.singular c.rising-k.result c.rising-k.new.list
listed c = written _ _ c.rising-k.auto.list c.rising-k.ensures.value c.rising-k.ensures.list_after

pub slice_bounds-list-end : goal.slice_bounds-list-end
unfolding contains_singular
slice_bounds-list-end c = (listed (goal.at.slice_bounds-list-end c).After-rising-k).few

pub slice_bounds-contains_all-end : goal.slice_bounds-contains_all-end
unfolding contains_singular
slice_bounds-contains_all-end c = sym (length-take-le _ _ (listed (goal.at.slice_bounds-contains_all-end c).After-rising-k).few)

pub contains_all-requires : goal.contains_all-requires
unfolding contains_singular
contains_all-requires c =
    let r = (goal.at.contains_all-requires c).After-rising-k in
    ((start r).requires, rw (listed r).lent (rising-below Sizes.originals (start r).args.singular))

pub returns-then-failed : goal.returns-then-failed
unfolding contains_singular
returns-then-failed c = let r = (goal.at.returns-then-failed c).After-rising-k in rw (some_listed _ c.if-failed.true, ← (listed r).lent) c.contains_all.ensures

pub returns : goal.returns
unfolding contains_singular
returns c = rw (none_listed _ c.if-failed.false)
