use Rattle.folds.specs.Kit.{◌≡◌, ◌≤◌, length, over}
use Rattle.folds.specs.Chosen.{chosen}
use Rattle.slack_rows.specs.SlackRows.{keeps}
use Rattle.slack_rows.proofs.kept_columns.Given as goal

abbrev pub invariant-loop-j : goal.invariant-loop-j
invariant-loop-j l = (l.j ≤ l.m)
    × (l.count ≤ l.j)
    × (length l.kept ≡ length l.initial.kept)
    × (l.count ≡ length (chosen l.j (λ t. keeps l.e l.n l.solved l.slacks l.originals l.first t)))
    × (l.kept ≡ over (chosen l.j (λ t. keeps l.e l.n l.solved l.slacks l.originals l.first t)) l.initial.kept)
