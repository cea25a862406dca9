use Rattle.folds.specs.Kit.{◌≡◌, ◌∙◌, length, rules}
use Rattle.sizes.specs.Sizes as Sizes
use Rattle.iterate.specs.Laws.{passed-more, length_mapped, board_consistent}
use Rattle.blocked_step.specs.BlockedStep.{blocked_pass}
use Rattle.blocked_step.specs.Laws.{moved-placed}
use Rattle.blocked_step.proofs.blocked_pass.Goals as goal
use Rattle.blocked_step.proofs.blocked_pass.Goals.{Start}

states : (c : Start) → length c.args.iterate.board.state ≡ Sizes.variables
states c = search (rules, length_mapped)

pub returns : goal.returns
unfolding blocked_pass
returns c =
    let s = (goal.at.returns c).Start in
    let a = c.args in
    let e = c.ended.ensures in
    let i = e.1 ∙ c.with_board.ensures in record {
      leaves = λ n m. passed-more n m c.ended.result e.0 ∙ rw (i, c.move_and_block-next.ensures);
      keeps = λ n below placed. rw (i, c.move_and_block-next.ensures)
          (board_consistent n a.segments a.iterate _ _
          (moved-placed n a.segments _ _ _ _ _ _ _ _ _ a.iterate.board (states s) c.requires.0 c.requires.2 (below _ c.requires.2) placed));
    }

pub move_and_block-next-requires : goal.move_and_block-next-requires
move_and_block-next-requires c = c.requires
