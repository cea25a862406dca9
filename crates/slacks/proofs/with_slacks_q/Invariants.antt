use Rattle.folds.specs.Kit.{◌≡◌, ◌≤◌, length, fold}
use Rattle.columns.specs.Columns.{put_column}
use Rattle.slacks.specs.Slacks.{entry_q}
use Rattle.slacks.proofs.with_slacks_q.Given as goal

abbrev pub invariant-loop-j : goal.invariant-loop-j
invariant-loop-j l = (l.j ≤ l.variables) × (length l.all ≡ length l.initial.all) × (l.all ≡ fold l.j (λ t l'. put_column l.variables l.variables t (λ i. entry_q l.n l.q i t) l') l.initial.all)
