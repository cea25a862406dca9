use Rattle.folds.specs.Kit.{◌≡◌, arith, length, rules}
use Rattle.sizes.specs.Sizes as Sizes
use Rattle.lent_segments.specs.Laws.{free_in}
use Rattle.blocked_step.specs.BlockedStep.{move_and_block}
use Rattle.blocked_step.proofs.move_and_block.Goals as goal

pub slice_bounds-move_along-end : goal.slice_bounds-move_along-end
slice_bounds-move_along-end c = search rules

pub move_along-requires : goal.move_along-requires
move_along-requires c =
    let p = c.requires in (
      λ i h. omega (arith, p.0.below i h, slice_bounds-move_along-end c),
      p.1.x_holds,
      p.1.d_holds,
      p.1.lower_holds,
      p.1.upper_holds,
    )

pub block-requires : goal.block-requires
block-requires c =
    let below = c.requires.0.below _ c.requires.2 in
    let room : length c.args.segments ≡ Sizes.variables = search rules in (omega arith, below, c.requires.0.inside _ c.requires.2)

pub returns : goal.returns
unfolding move_and_block
returns c =
    rw (← c.move_along.ensures) (c.block.ensures _ (free_in _ (c.requires.0.inside _ c.requires.2).free))
