use Rattle.folds.specs.Kit.{◌≡◌, ◌+◌, ◌≤◌, length, fold}
use Rattle.columns.specs.Columns.{put_column}
use Rattle.slacks.specs.Slacks.{entry_e}
use Rattle.slacks.proofs.with_slacks_e.Given as goal

abbrev pub invariant-loop-j : goal.invariant-loop-j
invariant-loop-j l = (l.j ≤ l.columns) × (length l.all ≡ length l.initial.all) × (l.all ≡ fold l.j (λ t l'. put_column (l.n + l.r) (l.n + l.r) t (λ i. entry_e l.n l.m l.e l.a i t) l') l.initial.all)
