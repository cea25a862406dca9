use Rattle.folds.specs.Kit.{◌≡◌, arith, length, rules, pick}
use Rattle.sizes.specs.Sizes as Sizes
use Rattle.advance.specs.Advance.{cleared, settled}
use Rattle.advance.proofs.settled.Goals as goal
use Rattle.advance.proofs.settled.Goals.{Start}

refused-length : (c : Start) → length c.args.board.refused ≡ Sizes.variables
refused-length c = search rules

pub slice_bounds-settle-end : goal.slice_bounds-settle-end
slice_bounds-settle-end c = search rules

pub settle-moved-requires : goal.settle-moved-requires
settle-moved-requires c =
    (λ i h. omega (arith, c.requires.0 i h, slice_bounds-settle-end c), c.requires.1, c.requires.2, c.requires.3)

pub returns-then-moved : goal.returns-then-moved
unfolding settled cleared pick
returns-then-moved c =
    rw (← c.settle-moved.ensures, c.if-moved.true, refused-length (goal.at.returns-then-moved c).Start)

pub returns-else-moved : goal.returns-else-moved
unfolding settled cleared pick
returns-else-moved c = rw (← c.settle-moved.ensures, c.if-moved.false)
