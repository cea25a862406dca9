use Rattle.std.proofs.Common.{◌≡◌, ℕ, ◌≤◌, ◌<◌}
use Rattle.arith.specs.Float.{at}
use Rattle.vector.proofs.write_each.Given as goal

abbrev pub invariant-loop-k : goal.invariant-loop-k
invariant-loop-k g l = record {
  written : (i : ℕ) → i < l.k → goal.F-post g l.f i (at l.initial.y i) (at l.y i);
  kept : (i : ℕ) → l.k ≤ i → at l.y i ≡ at l.initial.y i;
}
