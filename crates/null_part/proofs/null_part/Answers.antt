use Rattle.folds.specs.Kit.{◌≡◌, ◌≤◌, refl, sym, ◌∙◌, arith}
use lib.ListN.{take}
use lib.Seq.{length-take-le, take_at}
use Rattle.folds.specs.Tab.{taken-over}
use Rattle.vector.specs.Laws.{take_zeros}
use Rattle.eigen.specs.Eigen.{null}
use Rattle.eigen.specs.Laws.{null-few, null-below}
use Rattle.null_part.specs.NullPart.{null_part}
use Rattle.null_part.proofs.null_part.Goals as goal
use Rattle.null_part.proofs.null_part.Goals.{After-null-count}

-- the part that is lent is the list of the numbers, at most d
listed : (c : After-null-count) → let s = c.args in
    take c.null-count.result c.null-count.new.list ≡ null s.d s.values.now s.cutoff
listed c = rw c.null-count.ensures.0 (taken-over _ _ refl c.null-count.ensures.1)

few : (c : After-null-count) → c.null-count.result ≤ c.args.d
few c = let s = c.args in rw c.null-count.ensures.0 (null-few s.d s.values.now s.cutoff)

pub slice_bounds-null-end-2 : goal.slice_bounds-null-end-2
slice_bounds-null-end-2 c = omega (arith, few (goal.at.slice_bounds-null-end-2 c).After-null-count)

pub slice_bounds-null_each-end : goal.slice_bounds-null_each-end
slice_bounds-null_each-end c = sym (length-take-le _ _ (omega (arith, few (goal.at.slice_bounds-null_each-end c).After-null-count)))

pub slice_bounds-null_each-end-2 : goal.slice_bounds-null_each-end-2
slice_bounds-null_each-end-2 c = sym (length-take-le _ _ (omega arith))

pub null_each-requires : goal.null_each-requires
null_each-requires c =
    let r = (goal.at.null_each-requires c).After-null-count in
    let s = c.args in
    let p = c.requires in
    (p.0, p.4, p.3, p.5, rw (listed r) (null-below s.d s.values.now s.cutoff), length-take-le _ _ (omega arith))

pub returns : goal.returns
unfolding null_part
returns c =
    let e = c.null_each in
    let r = (goal.at.returns c).After-null-count in
    take_at _ _ _ (e.auto.direction ∙ length-take-le _ _ (omega arith))
    ∙ e.ensures
    ∙ rw (listed r, take_zeros c.args.n 48 (omega (arith, c.requires.0)))
