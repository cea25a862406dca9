use Rattle.folds.specs.Kit.{arith, sym, ◌∙◌}
use Rattle.folds.specs.Tab.{take-replicate}
use lib.Seq.{length-take-le, take_at}
use Rattle.constraints.proofs.q_transpose.Goals as goal

pub slice_bounds-q_transpose_in-end-5 : goal.slice_bounds-q_transpose_in-end-5
slice_bounds-q_transpose_in-end-5 c = sym (length-take-le _ _ c.requires.2)

pub q_transpose_in-requires : goal.q_transpose_in-requires
q_transpose_in-requires c =
    let r = c.requires in
    (r.0, length-take-le _ _ r.1, take-replicate _ _ _ r.4, length-take-le _ _ r.2, r.3, r.5)

pub returns : goal.returns
returns c =
    let r = c.q_transpose_in in
    take_at _ _ _ (r.auto.q ∙ length-take-le _ _ c.requires.2) ∙ r.ensures

pub slice_bounds-q_transpose_in-end-2 : goal.slice_bounds-q_transpose_in-end-2
slice_bounds-q_transpose_in-end-2 c = sym (length-take-le _ _ c.requires.1)

pub slice_bounds-made-end : goal.slice_bounds-made-end
slice_bounds-made-end c = omega (arith, c.requires.4)

pub slice_bounds-q_transpose_in-end-3 : goal.slice_bounds-q_transpose_in-end-3
slice_bounds-q_transpose_in-end-3 c = sym (length-take-le _ _ (omega (arith, c.requires.4)))
