use Rattle.folds.specs.Kit.{◌≡◌, ◌+◌, ◌-◌, ◌≤◌, span}
use Rattle.arith.specs.Float.{fadd, fmul}
use Rattle.columns.specs.Columns.{cell}
use Rattle.eigen.proofs.off_row.Given as goal

abbrev pub invariant-loop-q : goal.invariant-loop-q
invariant-loop-q l = (l.p + 1 ≤ l.q) × (l.q ≤ l.n) × (l.s ≡ span (l.p + 1) l.q (λ t z. fadd z (fmul (cell l.a l.n l.p t) (cell l.a l.n l.p t))) l.sum)
