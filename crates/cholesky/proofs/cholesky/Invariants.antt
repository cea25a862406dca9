use Rattle.folds.specs.Kit.{◌≡◌, true, ◌-◌, ◌≤◌, length, rules, walk, out, walks, walk_call, walk_stop}
use Rattle.cholesky.specs.Cholesky.{factor_column, cholesky}
use borrow.Author.Tests.{not-true, not-false}
use Rattle.cholesky.proofs.cholesky.Given as goal

abbrev pub invariant-loop-j : goal.invariant-loop-j
invariant-loop-j l = (l.j ≤ l.n) × (length l.a ≡ length l.initial.a) × (out true l.a ≡ walk l.j (factor_column l.n) l.initial.a)
