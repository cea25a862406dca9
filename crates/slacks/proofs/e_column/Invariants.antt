use Rattle.folds.specs.Kit.{◌≡◌, ◌≤◌, length}
use Rattle.columns.specs.Columns.{put_column}
use Rattle.slacks.specs.Slacks.{entry_e}
use Rattle.slacks.proofs.e_column.Given as goal

abbrev pub invariant-loop-i : goal.invariant-loop-i
invariant-loop-i l = (l.i ≤ l.variables) × (length l.all ≡ length l.initial.all) × (l.all ≡ put_column l.i l.variables l.j (λ t. entry_e l.n l.m l.e l.a t l.j) l.initial.all)
