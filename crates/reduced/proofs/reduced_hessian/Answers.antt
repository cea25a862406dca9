use Rattle.folds.specs.Kit.{◌≡◌, ◌≤◌, ◌*◌, ◌∙◌, arith, length}
use Rattle.folds.specs.Cell.{area}
use lib.Seq.{length-take-le, take_at}
use Rattle.reduced.specs.Laws.{hessian-found, hessian-none}
use Rattle.reduced.proofs.reduced_hessian.Goals as goal
use Rattle.reduced.proofs.reduced_hessian.Goals.{After-projected, Start}

abbrev start : After-projected → Start
start c = (goal.at.After-projected c).Start

square-fits : (c : Start) → c.args.d * c.args.d ≤ c.args.n * c.args.n
square-fits c = area c.requires.1 c.requires.1

pub slice_bounds-symmetric_eigen-end : goal.slice_bounds-symmetric_eigen-end
slice_bounds-symmetric_eigen-end c = omega (arith, square-fits (start (goal.at.slice_bounds-symmetric_eigen-end c).After-projected))

pub slice_bounds-symmetric_eigen-end-3 : goal.slice_bounds-symmetric_eigen-end-3
slice_bounds-symmetric_eigen-end-3 c = omega (arith, square-fits (start (goal.at.slice_bounds-symmetric_eigen-end-3 c).After-projected))

pub slice_bounds-symmetric_eigen-end-6 : goal.slice_bounds-symmetric_eigen-end-6
slice_bounds-symmetric_eigen-end-6 c = omega (arith, square-fits (start (goal.at.slice_bounds-symmetric_eigen-end-6 c).After-projected))

pub returns-then-not-symmetric_eigen : goal.returns-then-not-symmetric_eigen
returns-then-not-symmetric_eigen c =
    hessian-none _ _ _ _ _ _ c.projected.ensures (rw c.if-not-symmetric_eigen.true at c.symmetric_eigen.ensures)

pub returns : goal.returns
returns c =
    let r = c.requires in
    let e = c.symmetric_eigen in
    let v : length e.new.values ≡ c.args.d = e.auto.values ∙ length-take-le _ _ (omega arith) in
    let f : c.args.d * c.args.d ≤ c.args.n * c.args.n = area r.1 r.1 in
    let w : length e.new.vectors ≡ c.args.d * c.args.d = e.auto.vectors ∙ length-take-le _ _ (omega arith) in
    rw (take_at _ _ _ w, c.cutoff-cutoff.ensures, take_at _ _ _ v)
    (hessian-found _ _ _ _ _ _ c.projected.ensures (rw c.if-not-symmetric_eigen.false at e.ensures))

pub overflow_mul-square : goal.overflow_mul-square
overflow_mul-square c = omega (arith, square-fits (goal.at.overflow_mul-square c).Start)
