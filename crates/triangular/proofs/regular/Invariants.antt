use Rattle.folds.specs.Kit.{◌≡◌, true, ◌≤◌, all}
use mathlib.Core.Bool.{not}
use lib.Ieee.{eq}
use Rattle.arith.specs.Float.{f0}
use Rattle.columns.specs.Columns.{cell}
use Rattle.triangular.proofs.regular.Given as goal

abbrev pub invariant-loop-i : goal.invariant-loop-i
invariant-loop-i l = (l.i ≤ l.n) × (true ≡ all l.i (λ t. not (eq (cell l.l l.n t t) f0)))
