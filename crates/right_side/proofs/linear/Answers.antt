use Rattle.std.specs.Prelude.{Float}
use Rattle.std.proofs.Common.{length-take}
use Rattle.folds.specs.Kit.{sym, ◌∙◌, arith, rules}
use lib.Seq.{length-take-le}
use Rattle.folds.specs.Tab.{taken-over}
use Rattle.vector.specs.Laws.{length-sub, length-select}
use Rattle.right_side.specs.RightSide.{linear}
use Rattle.right_side.proofs.linear.Goals as goal
use Rattle.right_side.proofs.linear.Goals.{After-select}

pub slice_bounds-sub-end : goal.slice_bounds-sub-end
slice_bounds-sub-end c = sym (length-take-le _ _ (search rules))

pub returns : goal.returns
unfolding linear
returns c =
    taken-over _ _ (length-sub _ _ _) c.sub.ensures ∙ rw (taken-over _ _ (length-select _ _ _) c.select.ensures)

pub sub-requires : goal.sub-requires
sub-requires c =
    (omega (arith, length-take {A = Float}), omega (arith, length-take {A = Float}), omega (arith, length-take {A = Float}))
