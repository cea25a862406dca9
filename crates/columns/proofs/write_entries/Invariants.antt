use Rattle.std.proofs.Common.{◌≡◌, ℕ, ◌*◌, ◌≤◌, ◌<◌}
use Rattle.arith.specs.Float.{at}
use Rattle.columns.specs.Columns.{cell}
use Rattle.columns.proofs.write_entries.Given as goal

abbrev pub invariant-loop-j : goal.invariant-loop-j
invariant-loop-j g l = record {
  written : (i t : ℕ) → i < l.n → t < l.j-counter → goal.F-post g l.f i t (cell l.initial.a l.n i t) (cell l.a l.n i t);
  kept : (k : ℕ) → l.j-counter * l.n ≤ k → at l.a k ≡ at l.initial.a k;
}
