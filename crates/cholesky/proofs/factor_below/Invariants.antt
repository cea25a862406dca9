use Rattle.folds.specs.Kit.{◌≡◌, ◌+◌, ◌-◌, ◌≤◌, arith, length, rules, span, spans, span_call}
use Rattle.cholesky.specs.Cholesky.{factor_below, factor_entry}
use Rattle.cholesky.proofs.factor_below.Given as goal

abbrev pub invariant-loop-i : goal.invariant-loop-i
invariant-loop-i l = (l.j + 1 ≤ l.i) × (l.i ≤ l.n) × (length l.a ≡ length l.initial.a) × (l.a ≡ span (l.j + 1) l.i (factor_entry l.n l.j l.r) l.initial.a)
