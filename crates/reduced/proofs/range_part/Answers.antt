use Rattle.folds.specs.Kit.{◌≡◌, ◌≤◌, refl, sym, ◌∙◌, arith}
use lib.ListN.{take}
use lib.Seq.{length-take-le, take_at}
use Rattle.folds.specs.Tab.{taken-over}
use Rattle.vector.specs.Laws.{take_zeros}
use Rattle.eigen.specs.Eigen.{range}
use Rattle.eigen.specs.Laws.{range-few, range-below}
use Rattle.reduced.specs.Reduced.{range_part}
use Rattle.reduced.proofs.range_part.Goals as goal
use Rattle.reduced.proofs.range_part.Goals.{After-range-count}

-- the part that is lent is the list of the numbers, at most d
listed : (c : After-range-count) → let s = c.args in
    take c.range-count.result c.range-count.new.list ≡ range s.d s.values.now s.cutoff
listed c = rw c.range-count.ensures.0 (taken-over _ _ refl c.range-count.ensures.1)

few : (c : After-range-count) → c.range-count.result ≤ c.args.d
few c = let s = c.args in rw c.range-count.ensures.0 (range-few s.d s.values.now s.cutoff)

pub slice_bounds-range-end-2 : goal.slice_bounds-range-end-2
slice_bounds-range-end-2 c = omega (arith, few (goal.at.slice_bounds-range-end-2 c).After-range-count)

pub slice_bounds-range_each-end : goal.slice_bounds-range_each-end
slice_bounds-range_each-end c = sym (length-take-le _ _ (omega (arith, few (goal.at.slice_bounds-range_each-end c).After-range-count)))

pub slice_bounds-range_each-end-2 : goal.slice_bounds-range_each-end-2
slice_bounds-range_each-end-2 c = sym (length-take-le _ _ (omega arith))

pub range_each-requires : goal.range_each-requires
range_each-requires c =
    let r = (goal.at.range_each-requires c).After-range-count in
    let s = c.args in
    (omega arith, omega arith, omega arith, rw (listed r) (range-below s.d s.values.now s.cutoff), sym (slice_bounds-range_each-end-2 c))

pub returns : goal.returns
unfolding range_part
returns c =
    let e = c.range_each in
    let r = (goal.at.returns c).After-range-count in
    take_at _ _ _ (e.auto.v ∙ length-take-le _ _ (omega arith))
    ∙ e.ensures
    ∙ rw (listed r, take_zeros c.args.d 48 (omega (arith, c.requires.0)))
