use Rattle.folds.specs.Kit.{◌≤◌, sym, arith, rules}
use lib.Seq.{length-take-le}
use Rattle.sizes.specs.Sizes as Sizes
use Rattle.vector.specs.Laws.{take_zeros}
use Rattle.outputs.specs.Piecewise.{refused-wrong_shape}
use Rattle.piecewise.specs.Laws.{too_many}
use Rattle.piecewise.proofs.solve_bounded.Goals as goal

pub returns-then-n-gt-ORIGINALS : goal.returns-then-n-gt-ORIGINALS
returns-then-n-gt-ORIGINALS c = rw (too_many _ _ _ _ _ _ _ _ _ _ _ _ _ _ _ _ _ c.if-n-gt-ORIGINALS.true) (refused-wrong_shape _ _ _)

pub returns : goal.returns
returns c =
    let a = c.args in
    let h : a.n ≤ Sizes.originals = omega (arith, c.if-n-gt-ORIGINALS.false) in
    rw (take_zeros _ Sizes.originals h) at c.solve_piecewise.ensures

pub slice_bounds-solve_piecewise-end : goal.slice_bounds-solve_piecewise-end
slice_bounds-solve_piecewise-end c = sym (length-take-le _ _ (omega arith))

pub slice_bounds-solve_piecewise-end-2 : goal.slice_bounds-solve_piecewise-end-2
slice_bounds-solve_piecewise-end-2 c = sym (length-take-le _ _ (omega arith))
