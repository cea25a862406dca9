use Rattle.folds.specs.Kit.{sym, ◌∙◌, arith, rules}
use lib.Seq.{length-take-le}
use Rattle.turnover.specs.Turnover.{kink_multiplier}
use Rattle.turnover.proofs.kink_multiplier.Goals as goal

pub slice_bounds-sub-end : goal.slice_bounds-sub-end
slice_bounds-sub-end c = sym (length-take-le _ _ (omega arith))

pub slice_bounds-amax-end : goal.slice_bounds-amax-end
slice_bounds-amax-end c = sym (length-take-le _ _ (omega arith))

pub returns : goal.returns
unfolding kink_multiplier
returns c =
    c.first_raise.ensures
    ∙ rw (c.amax.ensures, c.sub-pull.ensures, c.mul_vec-gradient.ensures)

pub sub-pull-requires : goal.sub-pull-requires
sub-pull-requires c = (omega arith, omega (arith, slice_bounds-sub-end c), omega arith)

pub amax-requires : goal.amax-requires
amax-requires c = omega (arith, slice_bounds-amax-end c)
